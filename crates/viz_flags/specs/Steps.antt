pub mod Cases
pub mod Named
