-- What is made of the marked facets is the boundary.
use Rattle.std.proofs.Common.{◌≡◌, ℕ, ◌^◌, ◌<◌, ◌≤◌, Bool, List, length, nat_eq, sym, ap, subst, ◌∙◌, arith}
use Rattle.std.specs.List.{All, flat_map}
use Rattle.std.proofs.lemmas.List.Elements.{All-filter}
use Rattle.viz_fraction.specs.Points.{Point}
use Rattle.viz_sheet.specs.Sheet.{SheetData, IsSheet, KeepPoints}
use Rattle.viz_sheet.specs.Kept.{kept}
use Rattle.viz_sheet.specs.Ranked.{AreCells, AreRanks, IsCell, by_names}
use Rattle.viz_meaning.proofs.SectionLemmas.{all-cells}
use Rattle.viz_mesh_meaning.specs.Cells.{with_cells}
use Rattle.viz_mesh_meaning.specs.Facets.{boundary_of, facets_of, is_same_name, lone_facets}
use Rattle.viz_mesh_meaning.proofs.CellLemmas.{made-is}
use Rattle.viz_mesh_meaning.proofs.FacetLemmas.{facets-all, facets-apart, facets-size}
use Rattle.viz_boundary.specs.Steps.Alone.{TellAlone}
use Rattle.viz_boundary.specs.Steps.Keys.{keyed_from}
use Rattle.viz_boundary.proofs.KeyedLemmas.{kept-lone, length-keyed}
use Rattle.viz_boundary.proofs.NamedLemmas.{boundary-named}

lone-cells : (n : ℕ) (cells : List (List ℕ)) (cell : List ℕ) → IsCell n cell → All (IsCell n) (lone_facets nat_eq cells cell)
lone-cells n cells cell h =
    All-filter _ (IsCell n) (facets_of cell) (λ k d l.
    let most = (facets-size cell h.most k d l).most in
    record {
      some = (facets-size cell h.most k d l).some;
      most = omega arith;
      below = facets-all (λ r. r < n) cell h.most h.below k d l;
      apart = facets-apart cell h.most h.apart k d l;
    })

-- the marks keep the lone facets
pub facets-are : (s : SheetData) (cells left : List (List ℕ)) (marks : List Bool) → AreRanks s.names s.points cells → length marks ≤ 2 ^ 32
    → TellAlone (keyed_from 0 (flat_map facets_of cells)) marks → left ≡ kept marks (flat_map facets_of cells)
    → left ≡ flat_map (lone_facets nat_eq cells) cells
facets-are s cells left marks ranks few tell is =
    let all = flat_map facets_of cells in
    let size : length all ≤ 2 ^ 32 = omega (arith, length-keyed 0 all, few, tell.size) in
    is ∙ kept-lone (length s.names) cells marks ranks.rule.few ranks.rule.each size tell

pub cells-for : (s : SheetData) (names : List (List ℕ)) (points : List Point) (cells left : List (List ℕ)) → AreRanks s.names s.points cells → names ≡ s.names → points ≡ s.points
    → left ≡ flat_map (lone_facets nat_eq cells) cells → AreCells names points left
cells-for s names points cells left ranks en ep is =
    let n = length s.names in
    let lone : AreCells s.names s.points (flat_map (lone_facets nat_eq cells) cells) = record {
      ascending = ranks.rule.ascending;
      matched = ranks.rule.matched;
      few = ranks.rule.few;
      each = all-cells (IsCell n) (lone_facets nat_eq cells) cells (λ k d l. lone-cells n cells _ (ranks.rule.each k d l));
    } in
    subst (λ (ns : List (List ℕ)). AreCells ns points left) (sym en)
    (subst (λ (ps : List Point). AreCells s.names ps left) (sym ep)
    (subst (λ (cs : List (List ℕ)). AreCells s.names s.points cs) (sym is) lone))

pub boundary-made : (s t : SheetData) (names : List (List ℕ)) (points : List Point) (cells left : List (List ℕ)) → IsSheet s → IsSheet t → AreRanks s.names s.points cells → by_names s.names cells ≡ s.cells
    → names ≡ s.names → points ≡ s.points → left ≡ flat_map (lone_facets nat_eq cells) cells
    → KeepPoints t.names t.points names points → t.cells ≡ by_names names left → t ≡ boundary_of s
boundary-made s t names points cells left h k ranks named en ep is keep made =
    let points_kept : KeepPoints t.names t.points s.names s.points =
    subst (λ (ns : List (List ℕ)). KeepPoints t.names t.points ns s.points) en (subst (λ (ps : List Point). KeepPoints t.names t.points names ps) ep keep) in
    made-is s t h k points_kept
    ∙ ap (with_cells s) (made ∙ ap (λ ns. by_names ns left) en ∙ ap (by_names s.names) is ∙ boundary-named s.names cells ranks.rule.ascending ranks.rule.each
    ∙ ap (λ cs. flat_map (lone_facets is_same_name cs) cs) named)

-- there are as many marks as facets
pub marks-matched : (cells : List (List ℕ)) (marks lent : List Bool) → TellAlone (keyed_from 0 (flat_map facets_of cells)) marks → lent ≡ marks → length lent ≡ length (flat_map facets_of cells)
marks-matched cells marks lent tell same = ap length same ∙ tell.size ∙ length-keyed 0 (flat_map facets_of cells)
