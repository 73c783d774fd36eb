pub mod Units
pub mod Ends
pub mod Named
