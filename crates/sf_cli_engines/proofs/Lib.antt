mod Answered
mod Recorded
mod ReadTimes
mod Drawings
mod CheckedLogs
