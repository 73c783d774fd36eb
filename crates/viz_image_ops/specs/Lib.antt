pub mod Determined
pub mod Joined
pub mod Reckoned
pub mod Steps
pub mod Sums
