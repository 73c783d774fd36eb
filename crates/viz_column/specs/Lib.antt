pub mod Numbers
pub mod Kinds
pub mod Bytes
pub mod Lent
pub mod Typed
