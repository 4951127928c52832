pub mod Forgets
pub mod Found
pub mod Logs
pub mod Replies
pub mod Standings
