pub mod Level
pub mod Steps
