pub mod Divisions
pub mod Pieces
pub mod Narrow
pub mod Shares
pub mod Answers
