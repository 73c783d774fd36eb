pub mod Script
pub mod Batches
pub mod Lines
pub mod Orders
pub mod Steps
