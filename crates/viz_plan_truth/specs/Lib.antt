pub mod Truth
pub mod Faults
