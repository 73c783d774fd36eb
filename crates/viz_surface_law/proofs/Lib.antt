pub mod Sharing
pub mod Local
pub mod Cuts
pub mod Total
pub mod Diagonals
pub mod DiagonalRows
pub mod Law
pub mod AuditLaw
pub mod PassLaw
pub mod Reordered
pub mod Ranks
pub mod RankCounts
pub mod SheetLemmas
pub mod FormLemmas
pub mod FormLaws
pub mod BorderLemmas
pub mod AuditLemmas
mod StandardFacts
