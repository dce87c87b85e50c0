pub mod Sums
pub mod Views
pub mod Stays
pub mod WordSteps
pub mod Keeps
pub mod Ends
pub mod Splits
pub mod Dealing
