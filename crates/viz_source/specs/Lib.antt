pub mod Streams
pub mod Readers
pub mod MemorySource
pub mod Steps
