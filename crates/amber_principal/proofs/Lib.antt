pub mod Examples
pub mod Mapped
pub mod Shares
pub mod Steps
pub mod Totals
