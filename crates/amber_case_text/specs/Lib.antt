pub mod Fronts
pub mod Names
pub mod Sums
