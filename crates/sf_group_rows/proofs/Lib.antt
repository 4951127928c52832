pub mod AddsAgain
pub mod Moments
pub mod Refused
pub mod RowsAfter
