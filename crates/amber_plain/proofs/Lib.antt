pub mod Evaluated
pub mod Inputs
pub mod LineRecords
pub mod Passing
pub mod Records
pub mod Scans
pub mod Told
pub mod Waits
