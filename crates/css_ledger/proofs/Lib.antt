pub mod Outs
pub mod Claims
pub mod Filed
pub mod Taken
pub mod Numbering
pub mod Places
