-- The pieces of an image as parts of the sheet of its tetrahedra.
use Rattle.std.specs.Prelude.{ℕ, ◌+◌, ◌<◌, length, map}
use Rattle.std.specs.List.{range_with_len}
use Rattle.viz_dataset.specs.Images.{ImageData, IsImage, IsRestricted}
use Rattle.viz_meaning.specs.Tetrahedra.{tetrahedra_sheet}
use Rattle.viz_parts.specs.Parts.{PartSheetData}
use Rattle.viz_parts.specs.Pieces.{IsPartOf}
use Rattle.viz_parts.specs.Stitching.{IsStitchedSheet}
use Rattle.viz_sheet.specs.Sheet.{SheetData, IsSheet}
use Rattle.viz_parts.specs.Pieces.{AreAll}
use Rattle.viz_piece_layers.specs.Pieces.{leaf_shift, own_tets, piece_levels, seen_planes}

-- the sheet with each leaf's number so much greater
abbrev pub shifted_sheet : ℕ → SheetData → SheetData
shifted_sheet by s = record {
  names = map (map (λ leaf. leaf + by)) s.names;
  points = s.points;
  cells = map (map (map (λ leaf. leaf + by))) s.cells;
}

-- a piece of the tetrahedra of a whole image, made of the image on the planes that it sees
abbrev pub tetrahedra_part : ℕ → ℕ → ℕ → ImageData → ImageData → PartSheetData
tetrahedra_part p n ghosts whole image = record {
  sheet = shifted_sheet (leaf_shift whole.extent image.extent) (tetrahedra_sheet image);
  levels = piece_levels p n ghosts whole.extent;
}

-- it is a part of the whole's sheet
abbrev pub TetrahedraPartsArePartOf : Type 0
TetrahedraPartsArePartOf =
    (whole image : ImageData) (p n ghosts : ℕ) → IsImage whole → IsImage image → p < n
    → IsRestricted whole (seen_planes p n ghosts whole.extent) image
    → IsPartOf (tetrahedra_sheet whole) (own_tets n whole.extent p) ghosts
    (tetrahedra_part p n ghosts whole image)

-- and the own positions of all pieces in turn are all positions
abbrev pub SheetOwnsAreAll : Type 0
SheetOwnsAreAll =
    (whole : ImageData) (n : ℕ) → IsImage whole → 0 < n
    → AreAll (length (tetrahedra_sheet whole).cells)
    (map (own_tets n whole.extent) (range_with_len 0 n))

-- a sheet stays one with each leaf's number so much greater
abbrev pub ShiftedIsSheet : Type 0
ShiftedIsSheet = (by : ℕ) (s : SheetData) → IsSheet s → IsSheet (shifted_sheet by s)

-- the parts of all pieces, put together, are the whole's sheet
abbrev pub PiecesStitch : Type 0
PiecesStitch =
    (whole : ImageData) (images : ℕ → ImageData) (n ghosts : ℕ) → IsImage whole → 0 < n
    → ((p : ℕ) → p < n
    → IsImage (images p) × IsRestricted whole (seen_planes p n ghosts whole.extent) (images p))
    → IsStitchedSheet (map (λ p. tetrahedra_part p n ghosts whole (images p)) (range_with_len 0 n))
    (tetrahedra_sheet whole)
