pub mod Later
pub mod Sights
pub mod Ends
pub mod Headlines
pub mod OneHistories
