pub mod Adapted
pub mod Bytes
pub mod Counts
pub mod Laws
pub mod Reading
pub mod Room
pub mod Supply
