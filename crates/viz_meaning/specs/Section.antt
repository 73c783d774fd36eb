-- The section of a sheet by a linear form: cells between the crossings on cut edges (Doi and Koide
-- 1991).
use Rattle.std.specs.Prelude.{ℕ, ◌+◌, ◌*◌, Bool, pos, int_le, List, [], ◌∷◌, length, map}
use Rattle.std.specs.Prelude.{slice_index_or, if◌then◌else◌}
use Rattle.std.specs.List.{flat_map}
use Rattle.viz_fraction.specs.declared.forms.Form.{Form}
use Rattle.viz_fraction.specs.Points.{Point, numbers}
use Rattle.viz_fraction.specs.Forms.{value_of}
use Rattle.viz_fraction.specs.Crossings.{edge_crossing}
use Rattle.viz_fraction.specs.CaseRows.{End}
use Rattle.viz_fraction.specs.Cases.{cells_at}
use Rattle.viz_sheet.specs.Sheet.{SheetData}
use Rattle.viz_sheet.specs.Ranked.{rank_of}
use Rattle.viz_meaning.specs.Names.{edge_name, lesser_end, greater_end, names_of}

-- the point at 0 with the scalar 0, where a list of points has none
abbrev pub zero_point : Point
zero_point = numbers (pos 0) (pos 0) (pos 0) (pos 0) (pos 1)

-- the point of a name: the one at its rank
abbrev pub point_of : SheetData → List ℕ → Point
point_of s n = slice_index_or s.points (rank_of s.names n) zero_point

-- whether a point is inside: the form is at least 0 there
abbrev pub is_inside_at : Form → Point → Bool
is_inside_at f p = int_le (pos 0) (value_of f p)

-- truth values as a number, a bit for each, the first one lowest
abbrev pub bits_of : List Bool → ℕ
bits_of [] = 0
bits_of (b ∷ bs) = (if b then 1 else 0) + 2 * bits_of bs

-- which corners of a cell are inside, a bit for each
abbrev pub mask_of : {X : Type 0} → (X → Bool) → List X → ℕ
mask_of inside corners = bits_of (map inside corners)

-- the name of an end ij: that of the edge between the corners i and j
abbrev pub end_name : List (List ℕ) → End → List ℕ
end_name corners e = edge_name (slice_index_or corners e.low []) (slice_index_or corners e.high [])

-- the cells in one cell, by the names of their ends: those of its row in the table
abbrev pub cells_in : (List ℕ → Bool) → List (List ℕ) → List (List (List ℕ))
cells_in inside corners = map (map (end_name corners))
    (cells_at (length corners) (mask_of inside corners))

-- the cells in all cells, in their order
abbrev pub section_cells : Form → SheetData → List (List (List ℕ))
section_cells f s = flat_map (cells_in (λ n. is_inside_at f (point_of s n))) s.cells

-- the point of an edge: the crossing between its ends, from the inside one to the outside one
abbrev pub crossing_at : Form → SheetData → List ℕ → Point
crossing_at f s n = edge_crossing f (point_of s (lesser_end n)) (point_of s (greater_end n))

-- the section: its cells, their names ascending, each once, and the crossing of each
abbrev pub section_of : Form → SheetData → SheetData
section_of f s = record {
  names = names_of (section_cells f s);
  points = map (crossing_at f s) (names_of (section_cells f s));
  cells = section_cells f s;
}

-- the sections of sheets by forms, one sheet for each: all of the first form, then all of the next
abbrev pub sections_of : List Form → List SheetData → List SheetData
sections_of forms sheets = flat_map (λ f. map (section_of f) sheets) forms
