pub mod Ends
pub mod Functions
pub mod Lists
