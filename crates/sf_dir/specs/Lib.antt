pub mod KeyRow
pub mod Known
pub mod Names
pub mod Plays
pub mod Rule
pub mod Walk
pub mod WordIndex
