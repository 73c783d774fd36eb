pub mod TableLemmas
pub mod ReaderLemmas
pub mod ScratchLemmas
pub mod CountLemmas
