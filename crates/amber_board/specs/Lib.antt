pub mod Ledger
pub mod Moves
pub mod Seats
pub mod Opening
