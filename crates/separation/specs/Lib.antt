pub mod OnLines
pub mod Rooms
pub mod Building
pub mod LeastCuts
