pub mod Answered
pub mod Commands
pub mod Course
pub mod Laws
pub mod Refusal
