pub mod Homes
pub mod Replies
