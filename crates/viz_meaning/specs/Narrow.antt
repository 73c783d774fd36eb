-- A section in which no number is wide (docs/FORMATS-OF-FILTERS.md, "Exact points").
use Rattle.std.specs.Prelude.{ℕ, pos, ◌≤ℤ◌, ◌<ℤ◌, List, All}
use Rattle.viz_fraction.specs.declared.forms.Form.{Form}
use Rattle.viz_fraction.specs.Points.{Point}
use Rattle.viz_fraction.specs.Forms.{value_of, IsNarrowValue}
use Rattle.viz_fraction.specs.Crossings.{IsNarrowCrossing}
use Rattle.viz_sheet.specs.Sheet.{SheetData}
use Rattle.viz_meaning.specs.Names.{lesser_end, greater_end, names_of}
use Rattle.viz_meaning.specs.Section.{point_of, section_cells}

-- the crossing between two points isn't wide, whichever of them is inside
pub record IsNarrowEdge (f : Form) (p q : Point) : Type 0 where
  pub up : pos 0 ≤ℤ value_of f p → value_of f q <ℤ pos 0
      → IsNarrowCrossing (value_of f p) p (value_of f q) q
  pub down : pos 0 ≤ℤ value_of f q → value_of f p <ℤ pos 0
      → IsNarrowCrossing (value_of f q) q (value_of f p) p

-- the crossing of an edge isn't wide
abbrev pub IsNarrowName : Form → SheetData → List ℕ → Type 0
IsNarrowName f s n = IsNarrowEdge f (point_of s (lesser_end n)) (point_of s (greater_end n))

-- no term and no value at a point is wide, nor a number of a crossing in some cell
pub record IsNarrowSection (f : Form) (s : SheetData) : Type 0 where
  pub values : All (IsNarrowValue f) s.points
  pub crossings : All (IsNarrowName f s) (names_of (section_cells f s))

-- no number of the section in one cell is wide: no term and no value at a corner, and no number of
-- the crossing between two corners of which one is inside
pub record IsNarrowCell (f : Form) (s : SheetData) (cell : List (List ℕ)) : Type 0 where
  pub values : All (λ n. IsNarrowValue f (point_of s n)) cell
  pub crossings : All (λ m. All (λ n. IsNarrowEdge f (point_of s m) (point_of s n)) cell) cell

-- no number of any section of sheets by forms is wide
pub record AreNarrowSections (forms : List Form) (sheets : List SheetData) : Type 0 where
  pub each : All (λ f. All (IsNarrowSection f) sheets) forms
