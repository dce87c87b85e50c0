pub mod Boards
