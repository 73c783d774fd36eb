pub mod Plan
pub mod Levels
pub mod Networks
pub mod Known
pub mod Evaluation
pub mod Laws
pub mod Steps
