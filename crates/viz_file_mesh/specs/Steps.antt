pub mod Placed
pub mod Polygons
