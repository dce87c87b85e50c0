pub mod Following
pub mod Lines
pub mod Scanning
pub mod LogScans
pub mod Commanded
