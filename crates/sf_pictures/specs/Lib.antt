pub mod Escaped
pub mod Marks
pub mod Pictures
