pub mod Turns
pub mod Completes
pub mod Numbering
pub mod Onward
pub mod FiledPicks
pub mod Unmoved
