mod Streams
pub mod Ascii
mod LineParts
mod Written
