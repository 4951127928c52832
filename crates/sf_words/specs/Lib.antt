pub mod CallWord
pub mod KeyWord
pub mod NextWord
