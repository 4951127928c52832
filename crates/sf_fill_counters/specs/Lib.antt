pub mod Names
pub mod Totals
pub mod Ledgers
pub mod GetCounts
pub mod Nowhere
