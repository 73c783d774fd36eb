pub mod Table
pub mod Readers
