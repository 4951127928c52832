pub mod Witnesses
pub mod InTime
