pub mod Examples
pub mod Lines
mod Scripts
