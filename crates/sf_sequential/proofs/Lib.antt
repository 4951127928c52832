pub mod OpenByCurrent
pub mod Told
pub mod Noting
pub mod Maps
mod Standing
mod Kept
mod Joiners
mod KeptByCalls
