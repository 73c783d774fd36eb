pub mod MeshLemmas
pub mod AuditLemmas
