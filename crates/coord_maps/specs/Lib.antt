pub mod LineMaps
pub mod GridMaps
pub mod Preimages
pub mod Rooms
pub mod Stretches
pub mod Ways
pub mod Laws
