pub mod Says
pub mod Numbers
