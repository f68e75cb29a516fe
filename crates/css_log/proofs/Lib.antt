pub mod Lists
pub mod OtherSeats
pub mod ReaderSteps
pub mod WriterSteps
pub mod SplitsAndJoins
pub mod Ends
