pub mod Blocks
pub mod Offsets
pub mod Runs
pub mod Steps
