pub mod TraceText
pub mod ScheduleText
pub mod Played
pub mod PlayerState
