pub mod Points
pub mod CellSections
pub mod Grid
pub mod Poly
pub mod Pieces
pub mod Steps
pub mod GridSteps
pub mod PolySteps
