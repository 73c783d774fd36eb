-- Facets of a simplex: a facet leaves one corner out, turned so that it faces outward (VTK User's
-- Guide: vtkGeometryFilter).
use Rattle.std.specs.Prelude.{ℕ, ◌%◌, ◌==◌, ◌&&◌, nat_le, Bool, List, [], ◌∷◌, length, map}
use Rattle.std.specs.Prelude.{if◌then◌else◌, count_by}
use Rattle.std.specs.List.{flat_map, filter, list_all, list_any, range_with_len, remove}
use Rattle.std.specs.Cmp.Lexicographic.{slice_cmp}
use Rattle.std.specs.Ordering.{nat_cmp, is_eq}
use Rattle.viz_sheet.specs.Sheet.{SheetData}
use Rattle.viz_mesh_meaning.specs.Cells.{with_cells}

-- the first two items exchanged, where there are two
abbrev pub exchanged : {X : Type 0} → List X → List X
exchanged [] = []
exchanged (x ∷ []) = x ∷ []
exchanged (x ∷ y ∷ xs) = y ∷ x ∷ xs

-- facet i of a cell leaves name i out; for an odd i the first two names are exchanged
abbrev pub facet : {X : Type 0} → List X → ℕ → List X
facet cell i = if i % 2 == 1 then exchanged (remove cell i) else remove cell i

-- the facets of a cell, by the name that each leaves out; a vertex has none
abbrev pub facets_of : {X : Type 0} → List X → List (List X)
facets_of cell = if nat_le (length cell) 1 then []
    else map (facet cell) (range_with_len 0 (length cell))

-- two names are the same
abbrev pub is_same_name : List ℕ → List ℕ → Bool
is_same_name m n = is_eq (slice_cmp nat_cmp m n)

-- each of some items is one of a list, where a test says which are the same
abbrev pub has_each : {X : Type 0} → (X → X → Bool) → List X → List X → Bool
has_each same xs items = list_all (λ n. list_any (same n) xs) items

-- in how many cells of a size all names of a facet occur
abbrev pub occurrences : {X : Type 0} → (X → X → Bool) → List (List X) → ℕ → List X → ℕ
occurrences same cells size names = count_by (λ d. (length d == size)
    && has_each same d names) cells

-- the facets of a cell whose set of names occurs in exactly one cell of the cell's size
abbrev pub lone_facets : {X : Type 0} → (X → X → Bool) → List (List X) → List X → List (List X)
lone_facets same cells cell = filter (λ names. occurrences same cells (length cell) names == 1)
    (facets_of cell)

-- the boundary of a sheet: the lone facets of all cells, cell after cell
abbrev pub boundary_of : SheetData → SheetData
boundary_of s = with_cells s (flat_map (lone_facets is_same_name s.cells) s.cells)

-- the boundaries of sheets, one for each
abbrev pub boundaries : List SheetData → List SheetData
boundaries sheets = map boundary_of sheets
