pub mod Pruning
pub mod Marks
pub mod Faults
pub mod Places
pub mod Extracting
pub mod AmongWords
pub mod InRound
pub mod Waiting
