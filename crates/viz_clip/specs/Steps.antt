pub mod Corners
pub mod Keys
pub mod Numbers
pub mod Cuts
pub mod Vertices
