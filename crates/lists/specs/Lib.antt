pub mod Members
pub mod Parts
pub mod Words
pub mod Added
pub mod Unions
pub mod Products
pub mod Laws
