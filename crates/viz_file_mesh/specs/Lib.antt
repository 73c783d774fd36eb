pub mod FileMesh
pub mod GridPieces
pub mod Steps
