pub mod Planes
pub mod Kept
pub mod Lanes
