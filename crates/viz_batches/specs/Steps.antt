pub mod Listed
pub mod Making
pub mod Checking
