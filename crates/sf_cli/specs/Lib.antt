pub mod Work
pub mod Usage
pub mod Served
