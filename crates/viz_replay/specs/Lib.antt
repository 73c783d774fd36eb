pub mod Replay
pub mod Told
pub mod Served
pub mod Promises
pub mod Complete
