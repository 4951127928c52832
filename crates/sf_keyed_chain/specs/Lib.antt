pub mod Chains
pub mod Notes
pub mod Went
pub mod OneHistory
pub mod Headline
