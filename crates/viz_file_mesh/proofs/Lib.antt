pub mod CellLemmas
pub mod GridCells
pub mod FitLemmas
pub mod MeshLemmas
pub mod PieceLoops
pub mod PolyCells
pub mod ReadCells
pub mod OwnPieces
