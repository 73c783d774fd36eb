pub mod Keys
pub mod Alone
pub mod Slots
