pub mod Owned
pub mod Numbers
