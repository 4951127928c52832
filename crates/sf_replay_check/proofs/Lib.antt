pub mod Causes
pub mod Verdicts
pub mod OneVerdict
pub mod Maps
pub mod Rows
pub mod Noting
