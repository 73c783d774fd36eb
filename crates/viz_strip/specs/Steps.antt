pub mod Marks
pub mod Sides
pub mod Links
pub mod Grown
pub mod Rows
pub mod Named
