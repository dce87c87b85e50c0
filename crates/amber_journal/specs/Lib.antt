pub mod Answered
pub mod Parted
pub mod ReadBack
pub mod Written
