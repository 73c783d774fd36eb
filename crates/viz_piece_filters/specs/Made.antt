-- Filters that make cells of each cell, and give each name of these a point.
use Rattle.std.specs.Prelude.{◌≡◌, ℕ, Bool, List, map, Contains}
use Rattle.std.specs.List.{flat_map}
use Rattle.viz_fraction.specs.Points.{Point}
use Rattle.viz_meaning.specs.Names.{names_of}
use Rattle.viz_parts.specs.Parts.{PartSheetData}
use Rattle.viz_sheet.specs.Sheet.{SheetData}
use Rattle.viz_mesh_meaning.specs.Cells.{Cell}
use Rattle.viz_piece_filters.specs.Names.{Name}
use Rattle.viz_parts.specs.Pieces.{IsPartOf}
use Rattle.viz_piece_filters.specs.HandedOn.{counts, handed_on}

-- the sheet of the cells made of each cell, with the points of their names
abbrev pub made_sheet : (Cell → List Cell) → (Name → Point) → SheetData → SheetData
made_sheet f point s = record {
  names = names_of (flat_map f s.cells);
  points = map point (names_of (flat_map f s.cells));
  cells = flat_map f s.cells;
}

-- the same of a part: each made cell has the level of its cell
abbrev pub made_part : (Cell → List Cell) → (Name → Point) → PartSheetData → PartSheetData
made_part f point part = record {
  sheet = made_sheet f point part.sheet;
  levels = handed_on part.levels (counts f part.sheet.cells);
}

-- each name of a made cell has a parent among the names of the cell that it is made of
abbrev pub HaveParents : (Cell → List Cell) → (Name → Name) → List Cell → Type 0
HaveParents f parent cells =
    (c x : Cell) (n : Name) → Contains cells c → Contains (f c) x → Contains x n
    → Contains c (parent n)

-- two filters agree on some cells: in what they make of them, and in the points of its names
pub record AgreeOn (some : List Cell) (f g : Cell → List Cell) (p q : Name → Point) : Type 0 where
  pub cells : (c : Cell) → Contains some c → g c ≡ f c
  pub points : (c x : Cell) (n : Name) → Contains some c → Contains (f c) x → Contains x n
      → q n ≡ p n

-- what a filter makes of a part is a part of what is made of the whole, where the two agree on the
-- part's cells
abbrev pub MadeKeepParts : Type 0
MadeKeepParts =
    (f g : Cell → List Cell) (p q : Name → Point) (parent : Name → Name) (whole : SheetData)
    (own : List Bool) (ghosts : ℕ) (part : PartSheetData)
    → HaveParents f parent whole.cells → AgreeOn part.sheet.cells f g p q
    → IsPartOf whole own ghosts part
    → IsPartOf (made_sheet f p whole) (handed_on own (counts f whole.cells)) ghosts
    (made_part g q part)
