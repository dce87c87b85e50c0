mod Carried
mod Chunked
mod Examples
pub mod LinkEnds
mod Rooms
pub mod SameEnds
pub mod SentOn
pub mod Settled
pub mod Sides
