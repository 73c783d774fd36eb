pub mod Scans
pub mod Numbered
