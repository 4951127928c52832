pub mod Both
pub mod Changes
pub mod Exchanges
pub mod Attempts
pub mod Together
