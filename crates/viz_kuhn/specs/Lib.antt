pub mod Corners
pub mod Cubes
pub mod Kuhn
pub mod Places
