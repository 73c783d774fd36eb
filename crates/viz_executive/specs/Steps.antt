pub mod Grounds
pub mod Tables
pub mod Tasks
pub mod Wholes
pub mod Carrying
