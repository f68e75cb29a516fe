pub mod Numbers
pub mod Bundles
pub mod Linked
pub mod Rounds
pub mod Shared
pub mod Found
pub mod Barred
pub mod Fitting
