pub mod Told
pub mod Published
pub mod Sites
pub mod ByNode
