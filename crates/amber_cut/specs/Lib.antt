pub mod Kept
pub mod Lines
pub mod Pieces
pub mod Typing
