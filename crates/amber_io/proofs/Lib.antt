pub mod Lookup
pub mod Pieces
pub mod Taken
pub mod Told
pub mod Worlds
