pub mod Drafts
pub mod Ends
pub mod Kept
pub mod Pieces
pub mod Positions
pub mod States
pub mod Values
pub mod Walks
