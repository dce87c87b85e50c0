pub mod Links
pub mod Outgoing
pub mod Rooms
pub mod Sides
