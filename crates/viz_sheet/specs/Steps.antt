pub mod Marking
pub mod Lookup
