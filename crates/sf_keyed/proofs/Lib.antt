pub mod Joint
pub mod Headlines
pub mod Naming
