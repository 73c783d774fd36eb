-- Merging: points at one position become one point, and cells that lose a corner go (VTK User's
-- Guide: vtkCleanPolyData).
use Rattle.std.specs.Prelude.{ℕ, suc, Bool, ◌&&◌, true, not, nat_eq, List, [], ◌∷◌, length, map}
use Rattle.std.specs.Prelude.{if◌then◌else◌}
use Rattle.std.specs.List.{flat_map, filter, list_any}
use Rattle.std.specs.Cmp.Lexicographic.{slice_cmp}
use Rattle.std.specs.Ordering.{int_cmp, is_eq}
use Rattle.viz_fraction.specs.Points.{Point}
use Rattle.viz_fraction.specs.Places.{place_of}
use Rattle.viz_sheet.specs.Sheet.{SheetData}
use Rattle.viz_sheet.specs.Kept.{sheet_with}
use Rattle.viz_sheet.specs.Ranked.{leaf_names}
use Rattle.viz_meaning.specs.Section.{point_of}

-- two points have one place, whatever their scalars
abbrev pub is_same_place : Point → Point → Bool
is_same_place p q = is_eq (slice_cmp int_cmp (place_of p) (place_of q))

-- the points of all sheets, ascending by sheet and name
abbrev pub all_points : List SheetData → List Point
all_points sheets = flat_map (λ s. s.points) sheets

-- the first point of each group of equal places, in order
abbrev pub firsts : List Point → List Point
firsts [] = []
firsts (p ∷ ps) = p ∷ filter (λ q. not (is_same_place p q)) (firsts ps)

-- the rank of the group of a point, among the groups by their first points
abbrev pub group_of : List Point → Point → ℕ
group_of [] p = 0
group_of (q ∷ qs) p = if is_same_place q p then 0 else suc (group_of qs p)

-- the leaf of a name of a sheet: the rank of its point's group
abbrev pub leaf_in : List Point → SheetData → List ℕ → ℕ
leaf_in groups s n = group_of groups (point_of s n)

-- the cells of a sheet by leaves
abbrev pub cells_by_leaves : List Point → SheetData → List (List ℕ)
cells_by_leaves groups s = map (map (leaf_in groups s)) s.cells

-- no leaf stands twice
abbrev pub has_no_repeat : List ℕ → Bool
has_no_repeat [] = true
has_no_repeat (leaf ∷ leaves) = not (list_any (nat_eq leaf) leaves) && has_no_repeat leaves

-- the merge of sheets: one sheet, a leaf for each group, the cells of all sheets in order without
-- those that then repeat a leaf, and no point without a cell
abbrev pub merged : List SheetData → SheetData
merged sheets =
    let groups = firsts (all_points sheets) in
    sheet_with (leaf_names (length groups)) groups
    (filter has_no_repeat (flat_map (cells_by_leaves groups) sheets))
