pub mod Data
pub mod Information
pub mod Rules
pub mod Fold
pub mod Scratch
pub mod Laws
