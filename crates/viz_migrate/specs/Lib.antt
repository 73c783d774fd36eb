pub mod Migrate
pub mod Told
pub mod Promises
pub mod Complete
pub mod Views
