pub mod Keys
pub mod Pieces
pub mod Numbered
pub mod Crossings
