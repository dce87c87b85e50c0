pub mod Coordinating
pub mod Dealing
pub mod Driving
pub mod Leg
pub mod Slices
