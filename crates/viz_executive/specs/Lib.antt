pub mod Produced
pub mod Steps
