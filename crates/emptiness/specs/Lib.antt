pub mod Insertion
pub mod Glueing
pub mod Emptiness
pub mod Candidates
pub mod Refused
pub mod ByCell
pub mod Inferable
