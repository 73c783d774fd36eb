pub mod Reshape
pub mod Laws
pub mod Steps
