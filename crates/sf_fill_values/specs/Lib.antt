pub mod ByteCounts
pub mod FaultText
pub mod Rooted
pub mod FillValue
pub mod Answers
pub mod Settled
pub mod Keeping
