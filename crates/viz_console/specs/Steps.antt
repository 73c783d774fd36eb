pub mod Heard
pub mod Serving
