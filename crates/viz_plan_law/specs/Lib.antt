pub mod Told
pub mod Cutting
pub mod Kept
pub mod Ports
pub mod Fitting
