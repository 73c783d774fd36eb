pub mod Cells
pub mod Layers
pub mod Pieces
pub mod Sheets
