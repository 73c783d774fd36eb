pub mod Heard
pub mod Parser
