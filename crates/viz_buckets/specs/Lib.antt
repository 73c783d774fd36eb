pub mod Buckets
pub mod Steps
