-- Cells of names of a sheet, with the points that these have there.
use Rattle.std.proofs.Common.{◌≡◌, ℕ, ◌<◌, List, [], length, get_or, map, sym, ap, ◌∙◌, arith}
use Rattle.std.specs.List.{All, Contains, flat_map}
use Rattle.std.proofs.lemmas.List.{get_or-map, length-map, same_lists, get_or_default}
use Rattle.std.proofs.lemmas.List.Elements.{All-contains, Contains-get_or}
use Rattle.viz_fraction.specs.Points.{Point}
use Rattle.viz_sheet.specs.Sheet.{SheetData, IsNamedCell, IsSheet, KeepPoints, AreAscending}
use Rattle.viz_sheet.proofs.RankLemmas.{rank-at}
use Rattle.viz_meaning.specs.Names.{names_of}
use Rattle.viz_meaning.specs.Section.{point_of, zero_point}
use Rattle.viz_meaning.proofs.ListLemmas.{all-flat}
use Rattle.viz_meaning.proofs.SectionLemmas.{corners}
use Rattle.viz_meaning.proofs.NameSets.{names-from_members, sorted-each_once, in-each_once, of-each_once}
use Rattle.viz_mesh_meaning.specs.Cells.{Cell, with_cells}
use Rattle.viz_mesh_meaning.specs.Laws.{AreOfNames, IsMadeOf}

-- the point of the name at a rank
pub point-at : (s : SheetData) (r : ℕ) (d : Point) → AreAscending s.names → length s.points ≡ length s.names → r < length s.names → point_of s (get_or s.names r []) ≡ get_or s.points r d
point-at s r d a m l =
    ap (λ i. get_or s.points i zero_point) (rank-at s.names r a l) ∙ get_or_default s.points r zero_point d (omega arith)

-- the points that were kept are those of their names
points-are : (s t : SheetData) → IsSheet s → IsSheet t → KeepPoints t.names t.points s.names s.points → t.points ≡ map (point_of s) t.names
points-are s t h k keep =
    let count : length (map (point_of s) t.names) ≡ length t.names = simp length-map in
    same_lists t.points (map (point_of s) t.names) (k.matched ∙ sym count) (λ i d l.
    let below : i < length t.names = omega (arith, k.matched) in
    let from = keep i d below in
    from.3 ∙ sym (point-at s from.0 d h.ascending h.matched from.1)
    ∙ ap (point_of s) (sym from.2) ∙ sym (get_or-map (point_of s) t.names i [] d below))

same_sheet : (s : SheetData) (names : List (List ℕ)) (points : List Point) → s.names ≡ names → s.points ≡ points → s ≡ record { names = names; points = points; cells = s.cells }
same_sheet s names points en ep = λ i. record { names = en i; points = ep i; cells = s.cells }

pub names-are : (t : SheetData) → IsSheet t → t.names ≡ names_of t.cells
names-are t k = names-from_members t.names t.cells k.ascending (λ n c. (k.used n).0 c) (λ n c. (k.used n).1 c)

pub made-is : (s t : SheetData) → IsSheet s → IsSheet t → KeepPoints t.names t.points s.names s.points → t ≡ with_cells s t.cells
made-is s t h k keep =
    let names = names-are t k in
    same_sheet t (names_of t.cells) (map (point_of s) (names_of t.cells)) names (points-are s t h k keep ∙ ap (map (point_of s)) names)

-- ---- cells of names of a sheet are a sheet

name-is_one : (s : SheetData) (cells : List Cell) (n : List ℕ) → AreOfNames s cells → Contains (names_of cells) n → Contains s.names n
name-is_one s cells n h c = All-contains (Contains s.names) (flat_map (λ cell. cell) cells) n (all-flat (Contains s.names) cells h) (of-each_once (flat_map (λ cell. cell) cells) n c)

kept-points : (s : SheetData) (cells : List Cell) → IsSheet s → AreOfNames s cells → KeepPoints (names_of cells) (map (point_of s) (names_of cells)) s.names s.points
kept-points s cells h among k d l =
    let at = Contains-get_or (names_of cells) k [] l in
    let one = name-is_one s cells (get_or (names_of cells) k []) among at in
    let is : get_or (names_of cells) k [] ≡ get_or s.names one.0 [] = sym one.2 ∙ get_or_default s.names one.0 (get_or (names_of cells) k []) [] one.1 in
    (one.0, one.1, is, get_or-map (point_of s) (names_of cells) k [] d l ∙ ap (point_of s) is ∙ point-at s one.0 d h.ascending h.matched one.1)

pub cells-made : (s : SheetData) (cells : List Cell) → IsSheet s → All IsNamedCell cells → AreOfNames s cells → IsMadeOf s (with_cells s cells)
cells-made s cells h named among =
    let all = flat_map (λ (cell : List (List ℕ)). cell) cells in
    record {
      sheet = record {
        ascending = sorted-each_once all;
        matched = simp length-map;
        each = named;
        used = λ n. (of-each_once all n, in-each_once all n);
      };
      points = kept-points s cells h among;
    }

-- the names of a sheet's cells are its own
pub of-names : (s : SheetData) → IsSheet s → AreOfNames s s.cells
of-names s h = corners s h
