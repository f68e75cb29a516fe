pub mod OnLines
pub mod Reaching
pub mod Fitting
pub mod First
pub mod Halves
pub mod Once
pub mod Listing
pub mod Stretched
