pub mod Occurrences
pub mod NoRepeat
pub mod Searches
pub mod Compose
pub mod Standard
pub mod Places
pub mod Permutations
mod Rows
