-- A mesh that is written with strips, as it is read again (docs/FORMATS-OF-OUTPUT.md, "Written
-- strips").
use Rattle.std.specs.Prelude.{◌≡◌, ℕ, ◌^◌, pos, List, map, All}
use Rattle.viz_base.specs.declared.node.Pick.TheVariants.{Zero}
use Rattle.viz_dataset.specs.declared.dataset.Dataset.TheVariants.{Mesh}
use Rattle.viz_fraction.specs.Points.{Point, numbers, reduced}
use Rattle.viz_fraction.specs.Decimals.{fixed_of}
use Rattle.viz_sheet.specs.Sheet.{SheetData, IsSheet}
use Rattle.viz_legacy_read.specs.Reading.{Reads}
use Rattle.viz_mesh_write.specs.Cells.{points_of, cells_of, of_size}
use Rattle.viz_mesh_write.specs.Fits.{FitNumbers}
use Rattle.viz_strip.specs.Kept.{AreSameTriangles}
use Rattle.viz_strip_write.specs.FitStrips.{FitStrips}
use Rattle.viz_strip_write.specs.StripText.{IsFlat, IsStripText}

-- a mesh that may be written with strips
pub record IsStrippable (sheets : List SheetData) : Type 0 where
  pub known : All IsSheet sheets
  pub flat : IsFlat sheets
  pub counts : FitStrips sheets
  pub numbers : FitNumbers 3 sheets

-- a point as it is written, each coordinate rounded down to thousandths, and without its scalar
abbrev pub without_scalar : Point → Point
without_scalar p =
    reduced (numbers (fixed_of p.x p.w 3) (fixed_of p.y p.w 3) (fixed_of p.z p.w 3) (pos 0)
    (pos (10 ^ 3)))

-- a mesh has the points of another as they are written and, by the ranks of points, its vertices
-- and its lines, its oriented triangles, each as often, and no other cells
pub record HasSameCells (sheets again : List SheetData) : Type 0 where
  pub flat : IsFlat again
  pub points : points_of again ≡ map without_scalar (points_of sheets)
  pub vertices : of_size 1 (cells_of again) ≡ of_size 1 (cells_of sheets)
  pub lines : of_size 2 (cells_of again) ≡ of_size 2 (cells_of sheets)
  pub triangles : AreSameTriangles (of_size 3 (cells_of sheets)) (of_size 3 (cells_of again))

-- a text is read as a mesh with the cells of this one, where no array is asked for and the unit is
-- a thousandth
pub record IsReadAgain (sheets : List SheetData) (text : List ℕ) : Type 0 where
  pub again : List SheetData
  pub reads : Reads text Zero 3 (Mesh again)
  pub same : HasSameCells sheets again

-- each text of a mesh with strips is read so
abbrev pub StripsAreReadAgain : Type 0
StripsAreReadAgain =
    (sheets : List SheetData) (text : List ℕ) → IsStrippable sheets → IsStripText sheets text
    → IsReadAgain sheets text
