pub mod Kept
pub mod Deciding
pub mod Listed
pub mod Counted
pub mod Ordered
pub mod Roots
pub mod Single
pub mod Minimal
pub mod GridCells
pub mod ActiveCells
pub mod Further
pub mod Joined
mod Rows
