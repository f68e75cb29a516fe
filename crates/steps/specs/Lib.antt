pub mod Steps
pub mod Traces
pub mod Kept
pub mod Refused
pub mod Outside
