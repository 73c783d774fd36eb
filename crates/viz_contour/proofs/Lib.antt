mod UnitLemmas
mod EndLemmas
mod ApartLemmas
mod SheetLemmas
mod NamedLemmas
