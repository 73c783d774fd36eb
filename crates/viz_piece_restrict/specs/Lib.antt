pub mod Restricting
pub mod Steps
