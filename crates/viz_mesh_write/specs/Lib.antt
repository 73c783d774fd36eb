pub mod MeshText
pub mod Cells
pub mod Rows
pub mod Sections
pub mod Fits
pub mod Counts
pub mod Steps
