mod LaterTimes
mod Ordered
