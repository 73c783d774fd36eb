pub mod Informed
pub mod Table
pub mod Above
pub mod Steps
