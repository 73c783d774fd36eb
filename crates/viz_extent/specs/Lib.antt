pub mod Extent
pub mod Numbering
pub mod Parts
pub mod Slabs
