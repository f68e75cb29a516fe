pub mod Splits
pub mod Alone
pub mod Marked
pub mod Farthest
pub mod Numbered
pub mod Placed
pub mod Carrying
