pub mod FaultText
pub mod Given
pub mod LoadPath
pub mod Scripted
