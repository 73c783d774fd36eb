pub mod Tets
pub mod Asked
pub mod Layers
