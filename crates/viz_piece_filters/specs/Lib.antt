pub mod Names
pub mod HandedOn
pub mod Made
pub mod Filters
pub mod Chains
pub mod Owns
pub mod Growth
