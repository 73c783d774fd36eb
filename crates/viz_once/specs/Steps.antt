pub mod Nodes
pub mod Made
