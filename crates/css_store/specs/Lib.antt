pub mod Desks
pub mod Filings
pub mod Answers
pub mod RecordWords
