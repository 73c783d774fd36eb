pub mod Geometry
pub mod Numbered
pub mod Sections
pub mod Steps
pub mod Blocks
