pub mod Rooting
pub mod Looks
pub mod Promoted
