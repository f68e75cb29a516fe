pub mod Inserting
