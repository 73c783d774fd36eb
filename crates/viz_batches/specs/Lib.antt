pub mod Batches
pub mod AppliesAll
pub mod Steps
