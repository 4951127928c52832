mod CommandAscii
mod ReadLines
mod Refused
mod Runs
