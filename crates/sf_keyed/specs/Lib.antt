pub mod Calls
pub mod Known
pub mod Headline
pub mod Names
