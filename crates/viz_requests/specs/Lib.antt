pub mod Upstream
pub mod Serving
pub mod Shapes
