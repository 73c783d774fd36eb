pub mod ImageSection
pub mod GridSection
pub mod Edges
pub mod EdgeLaws
pub mod Steps
