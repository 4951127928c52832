pub mod Erased
pub mod Numbered
pub mod Options
pub mod Turning
