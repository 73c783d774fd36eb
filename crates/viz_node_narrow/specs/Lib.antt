pub mod Nodes
pub mod Pieces
