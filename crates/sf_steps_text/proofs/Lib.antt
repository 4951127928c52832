pub mod Playing
mod AfterTurns
mod Lines
mod Ascii
