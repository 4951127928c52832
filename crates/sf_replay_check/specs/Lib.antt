pub mod Checker
pub mod Index
pub mod IndexMaps
