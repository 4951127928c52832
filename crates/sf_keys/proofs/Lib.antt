mod Newer
mod Answered
