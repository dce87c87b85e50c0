pub mod EachItem
pub mod Hexadecimal
pub mod ItemText
pub mod Kept
pub mod Parted
pub mod Pieces
pub mod ReadBack
pub mod Spelled
