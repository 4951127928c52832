pub mod Values
pub mod Reports
pub mod Jobs
pub mod Found
pub mod Words
