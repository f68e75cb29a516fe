pub mod Words
pub mod Occurs
pub mod Search
pub mod Ranks
pub mod Laws
