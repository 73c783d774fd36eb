-- The sheet of marked cells.
use Rattle.std.proofs.Common.{◌≡◌, ℕ, Bool, List, sym, ap, subst, ◌∙◌}
use Rattle.viz_fraction.specs.Points.{Point}
use Rattle.viz_mesh_meaning.specs.Cells.{with_cells}
use Rattle.viz_mesh_meaning.proofs.CellLemmas.{made-is}
use Rattle.viz_sheet.specs.Kept.{kept}
use Rattle.viz_sheet.specs.Ranked.{AreCells, AreRanks, by_names}
use Rattle.viz_sheet.specs.Sheet.{SheetData, IsSheet, KeepPoints}
use Rattle.viz_sheet.proofs.CompactedLemmas.{some_cells}
use Rattle.viz_piece_restrict.specs.Steps.Cuts.{IsKeptSheet}

pub cells-for : (s : SheetData) (names : List (List ℕ)) (points : List Point) (cells left : List (List ℕ)) (keeps : List Bool) → AreRanks s.names s.points cells → names ≡ s.names → points ≡ s.points
    → left ≡ kept keeps cells → AreCells names points left
cells-for s names points cells left keeps ranks en ep is =
    subst (λ (ns : List (List ℕ)). AreCells ns points left) (sym en)
    (subst (λ (ps : List Point). AreCells s.names ps left) (sym ep)
    (subst (λ (cs : List (List ℕ)). AreCells s.names s.points cs) (sym is) (some_cells s.names s.points cells keeps ranks.rule).rule))

pub kept-made : (s t : SheetData) (names : List (List ℕ)) (points : List Point) (cells left : List (List ℕ)) (keeps : List Bool)
    → IsSheet s → IsSheet t → AreRanks s.names s.points cells → by_names s.names cells ≡ s.cells → names ≡ s.names → points ≡ s.points → left ≡ kept keeps cells
    → KeepPoints t.names t.points names points → t.cells ≡ by_names names left
    → IsKeptSheet s keeps t
kept-made s t names points cells left keeps h k ranks named en ep is keep made =
    let points_kept : KeepPoints t.names t.points s.names s.points =
    subst (λ (ns : List (List ℕ)). KeepPoints t.names t.points ns s.points) en (subst (λ (ps : List Point). KeepPoints t.names t.points names ps) ep keep) in
    let by : t.cells ≡ kept keeps s.cells =
    made ∙ ap (λ ns. by_names ns left) en ∙ ap (by_names s.names) is ∙ (some_cells s.names s.points cells keeps ranks.rule).same ∙ ap (kept keeps) named in
    record {
      whole_is = h;
      made_is = k;
      cells = by;
      points = points_kept;
      value = made-is s t h k points_kept ∙ ap (with_cells s) by;
    }
