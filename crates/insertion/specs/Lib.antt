pub mod Open
pub mod Building
