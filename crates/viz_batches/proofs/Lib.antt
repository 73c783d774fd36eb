pub mod BatchLemmas
pub mod SetLemmas
pub mod SoundLemmas
