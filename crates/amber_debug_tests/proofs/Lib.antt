pub mod StillLent
mod Scans
