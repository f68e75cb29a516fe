pub mod Unheld
pub mod Inferring
