pub mod AsBox
pub mod AsCallBox
pub mod Values
