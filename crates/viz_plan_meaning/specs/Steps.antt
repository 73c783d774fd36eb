pub mod Ready
pub mod Visits
