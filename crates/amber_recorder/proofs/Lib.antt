pub mod Recording
pub mod Halting
pub mod Last
