pub mod Passes
pub mod Answers
pub mod Publishing
pub mod Steps
