pub mod CallCodes
mod Flags
pub mod KeyCodes
pub mod NextCodes
