pub mod RoundTrip
pub mod MeshTrip
