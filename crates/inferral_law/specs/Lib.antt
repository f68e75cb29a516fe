pub mod Inferring
