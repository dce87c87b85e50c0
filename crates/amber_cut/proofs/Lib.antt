pub mod Apart
mod Examples
pub mod Halves
pub mod LineRecords
pub mod Places
pub mod PieceFacts
pub mod TypedLines
