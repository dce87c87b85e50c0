pub mod Holding
pub mod Unread
pub mod Stages
pub mod Steps
