pub mod Leads
pub mod Cells
