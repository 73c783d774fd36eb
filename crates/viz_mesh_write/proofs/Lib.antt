mod BlockLemmas
mod PartLemmas
mod PointLemmas
mod CellLemmas
pub mod TallyLemmas
mod StartLemmas
mod SectionLemmas
mod SheetLemmas
mod TextLemmas
