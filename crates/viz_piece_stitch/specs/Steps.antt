pub mod Columns
pub mod Joining
pub mod Put
pub mod Slabs
pub mod Walk
pub mod Wholes
