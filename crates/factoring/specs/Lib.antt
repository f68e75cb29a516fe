pub mod Numbered
pub mod Building
pub mod Shares
pub mod Outside
pub mod Tied
pub mod Leading
