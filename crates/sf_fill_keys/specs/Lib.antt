pub mod Resolving
pub mod Spaces
pub mod Spots
