pub mod Made
pub mod Taken
pub mod Answering
pub mod Steps
