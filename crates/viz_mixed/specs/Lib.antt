pub mod Mixed
pub mod Steps
