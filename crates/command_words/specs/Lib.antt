pub mod Commands
pub mod Parts
pub mod Apps
pub mod Met
pub mod Requests
