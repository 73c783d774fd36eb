pub mod Facets
pub mod Sides
pub mod Closed
pub mod Audit
pub mod Surfaces
pub mod FormSections
pub mod Contours
pub mod Steps
