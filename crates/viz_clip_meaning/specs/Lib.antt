pub mod Clip
pub mod Vertices
pub mod Order
pub mod Solids
pub mod Rows
