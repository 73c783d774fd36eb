pub mod Exact
pub mod Divided
pub mod Shares
pub mod Laws
