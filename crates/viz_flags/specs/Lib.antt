pub mod Edges
pub mod Flags
pub mod Flagged
pub mod Steps
