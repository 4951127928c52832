pub mod Asks
pub mod Logging
pub mod LogSteps
