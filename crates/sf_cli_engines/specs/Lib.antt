pub mod Ending
pub mod Checking
pub mod Merging
pub mod Timing
pub mod Drawing
pub mod Playing
pub mod Recording
pub mod Engines
