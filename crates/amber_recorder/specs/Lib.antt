pub mod Writing
pub mod Recording
pub mod Left
