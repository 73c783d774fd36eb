pub mod Sessions
pub mod Ends
pub mod Replies
pub mod Lines
pub mod Steps
