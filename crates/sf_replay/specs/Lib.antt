pub mod Entered
pub mod Logs
pub mod Merged
pub mod Record
pub mod RecordText
pub mod Written
pub mod TextKeys
