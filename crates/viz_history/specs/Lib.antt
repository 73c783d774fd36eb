pub mod Machine
pub mod Publishing
pub mod Kept
pub mod Steps
