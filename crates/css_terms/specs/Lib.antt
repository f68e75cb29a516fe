pub mod Terms
pub mod Series
pub mod Rows
pub mod SpecRows
