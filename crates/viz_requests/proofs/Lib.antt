pub mod UpstreamLemmas
pub mod ServingLemmas
pub mod ShapesLemmas
