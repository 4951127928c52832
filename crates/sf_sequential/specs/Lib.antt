pub mod CauseText
pub mod State
pub mod Sequential
pub mod Noted
pub mod NotedMaps
