pub mod Strips
pub mod Kept
pub mod Names
pub mod Steps
