pub mod Made
pub mod Ground
