pub mod Agreement
pub mod Told
pub mod States
