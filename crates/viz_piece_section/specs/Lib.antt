pub mod Sections
pub mod Shifted
pub mod Steps
