pub mod Middles
pub mod Wording
