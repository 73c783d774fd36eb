pub mod Keys
pub mod Ranked
