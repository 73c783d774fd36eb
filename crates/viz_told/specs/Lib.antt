pub mod Told
pub mod Lines
pub mod Puts
pub mod Calls
pub mod Ports
pub mod Complete
