pub mod Places
pub mod Perms
pub mod Orders
pub mod Basis
pub mod Flaws
pub mod Faults
pub mod Tally
pub mod Laws
