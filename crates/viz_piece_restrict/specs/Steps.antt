pub mod Levels
pub mod Cuts
