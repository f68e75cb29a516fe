pub mod Measure
pub mod TraceLaws
pub mod Known
pub mod Lines
pub mod Reached
pub mod Thinned
