pub mod Doing
pub mod Hands
pub mod Jobs
pub mod Served
