pub mod Recovering
pub mod Redone
