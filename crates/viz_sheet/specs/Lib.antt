pub mod Sheet
pub mod Ranked
pub mod Arrays
pub mod Kept
pub mod PairNames
pub mod Steps
