pub mod Calls
pub mod Hits
pub mod History
pub mod Legal
pub mod Limits
pub mod LastLead
