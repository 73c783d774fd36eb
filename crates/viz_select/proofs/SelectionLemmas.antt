-- What is made of the marked cells is the selection.
use Rattle.std.proofs.Common.{◌≡◌, ℕ, ◌<◌, Bool, List, map, refl, sym, ap, subst, ◌∙◌}
use Rattle.std.specs.Prelude.{ℤ}
use Rattle.std.specs.List.{All, filter}
use Rattle.viz_fraction.specs.Points.{Point}
use Rattle.viz_sheet.specs.Sheet.{SheetData, IsSheet, KeepPoints}
use Rattle.viz_sheet.specs.Kept.{kept}
use Rattle.viz_sheet.specs.Ranked.{AreCells, AreRanks, IsCell, by_names, names_at}
use Rattle.viz_sheet.proofs.CompactedLemmas.{some_cells}
use Rattle.viz_mesh_meaning.specs.Cells.{with_cells}
use Rattle.viz_mesh_meaning.specs.Select.{has_scalar_within, is_selected, selected}
use Rattle.viz_mesh_meaning.proofs.CellLemmas.{made-is}
use Rattle.viz_select.specs.Steps.{is_marked}
use Rattle.viz_select.proofs.MarkLemmas.{cell-marked, kept-filter}

-- the marks of the cells, by the points within the bounds
abbrev pub marks_for : Bool → ℤ → ℤ → SheetData → List (List ℕ) → List Bool
marks_for all lo hi s cells = map (is_marked all (map (has_scalar_within lo hi) s.points)) cells

-- by names the marked cells are the selected ones
pub marked-selected : (all : Bool) (lo hi : ℤ) (s : SheetData) (cells : List (List ℕ)) → IsSheet s → AreRanks s.names s.points cells → by_names s.names cells ≡ s.cells
    → by_names s.names (kept (marks_for all lo hi s cells) cells) ≡ filter (is_selected all lo hi s) s.cells
marked-selected all lo hi s cells h ranks named =
    (some_cells s.names s.points cells (marks_for all lo hi s cells) ranks.rule).same
    ∙ kept-filter (is_marked all (map (has_scalar_within lo hi) s.points)) (is_selected all lo hi s) (names_at s.names) cells
    (λ k d l. cell-marked all lo hi s _ h (ranks.rule.each k d l).below)
    ∙ ap (filter (is_selected all lo hi s)) named

pub cells-for : (s : SheetData) (names : List (List ℕ)) (points : List Point) (cells left : List (List ℕ)) (keeps : List Bool) → AreRanks s.names s.points cells → names ≡ s.names → points ≡ s.points
    → left ≡ kept keeps cells → AreCells names points left
cells-for s names points cells left keeps ranks en ep is =
    subst (λ (ns : List (List ℕ)). AreCells ns points left) (sym en)
    (subst (λ (ps : List Point). AreCells s.names ps left) (sym ep)
    (subst (λ (cs : List (List ℕ)). AreCells s.names s.points cs) (sym is) (some_cells s.names s.points cells keeps ranks.rule).rule))

pub selection-made : (all : Bool) (lo hi : ℤ) (s t : SheetData) (names : List (List ℕ)) (points : List Point) (cells left : List (List ℕ)) (within keeps : List Bool)
    → IsSheet s → IsSheet t → AreRanks s.names s.points cells → by_names s.names cells ≡ s.cells → names ≡ s.names → points ≡ s.points
    → within ≡ map (has_scalar_within lo hi) points → keeps ≡ map (is_marked all within) cells → left ≡ kept keeps cells
    → KeepPoints t.names t.points names points → t.cells ≡ by_names names left
    → t ≡ selected all lo hi s
selection-made all lo hi s t names points cells left within keeps h k ranks named en ep ew ek is keep made =
    let marks : keeps ≡ marks_for all lo hi s cells = ek ∙ ap (λ w. map (is_marked all w) cells) (ew ∙ ap (map (has_scalar_within lo hi)) ep) in
    let points_kept : KeepPoints t.names t.points s.names s.points =
    subst (λ (ns : List (List ℕ)). KeepPoints t.names t.points ns s.points) en (subst (λ (ps : List Point). KeepPoints t.names t.points names ps) ep keep) in
    made-is s t h k points_kept
    ∙ ap (with_cells s) (made ∙ ap (λ ns. by_names ns left) en ∙ ap (by_names s.names) (is ∙ ap (λ ms. kept ms cells) marks) ∙ marked-selected all lo hi s cells h ranks named)
