pub mod Words
pub mod Usage
pub mod Searches
pub mod Samples
pub mod Verdicts
pub mod Answers
pub mod Streams
