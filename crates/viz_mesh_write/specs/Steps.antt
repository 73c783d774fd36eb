pub mod Passes
pub mod Kinds
pub mod Parts
pub mod SheetCells
pub mod Starts
pub mod Tallies
