pub mod True
pub mod Whole
pub mod Laws
pub mod Steps
