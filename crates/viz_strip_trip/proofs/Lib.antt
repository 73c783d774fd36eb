pub mod PassedStanding
pub mod StripStanding
pub mod SameLemmas
pub mod StripPieces
pub mod MeshAgain
pub mod TextStanding
