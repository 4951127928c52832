mod Rows
mod Seconds
mod Worlds
