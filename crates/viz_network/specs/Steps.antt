pub mod Order
pub mod Marks
pub mod Places
pub mod Since
