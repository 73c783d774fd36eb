pub mod SiteLemmas
pub mod DemandLemmas
pub mod ByNodeLemmas
