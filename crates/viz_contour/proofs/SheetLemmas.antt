-- Cells by the ranks of their edges are those of a sheet.
use Rattle.std.proofs.Common.{◌≡◌, ◌≢◌, ℕ, ◌^◌, ◌<◌, ◌≤◌, List, [], ◌∷◌, map, length, get_or, refl, sym, ap, ap₂, subst, ◌∙◌, arith}
use Rattle.std.specs.List.{All, Contains, flat_map}
use Rattle.std.specs.List.Sorted.{IsStrictlySortedBy}
use Rattle.std.proofs.lemmas.List.{get_or_default}
use Rattle.std.proofs.lemmas.List.Elements.{All-nil, All-cons, All-map, All-head, All-tail, Contains-append_left, Contains-append_right}
use Rattle.viz_fraction.specs.Points.{Point}
use Rattle.viz_sheet.specs.Sheet.{AreApart, AreAscending}
use Rattle.viz_sheet.specs.Ranked.{AreRanks, AreUsed, IsCell, by_names, names_at}
use Rattle.viz_meaning.proofs.NameSets.{sorted-each_once}
use Rattle.viz_grid_section.specs.Edges.{Edge, edge_leaves, edges_of, rank_of}
use Rattle.viz_grid_section.proofs.EdgeOrder.{edge_cmp}
use Rattle.viz_grid_section.proofs.EdgeSets as sets
use Rattle.viz_grid_section.proofs.EdgeRanks.{rank-at}
use Rattle.viz_grid_section.proofs.MembersLemmas.{get_or-map_of, length-map_of, map-pieces, Contains-item}
use Rattle.viz_grid_section.proofs.NamedSets.{names-edges}
use Rattle.viz_contour.proofs.ApartLemmas.{IsTriangle}

-- names of edges that ascend ascend
names_ascend : (cells : List (List Edge)) → AreAscending (map edge_leaves (edges_of cells))
names_ascend cells =
    subst AreAscending (names-edges cells) (sorted-each_once (flat_map (λ (cell : List (List ℕ)). cell) (map (map edge_leaves) cells)))

module _ (cells : List (List Edge)) where
  abbrev es : List Edge
  es = edges_of cells

  abbrev rank : Edge → ℕ
  rank = rank_of (edges_of cells)

  abbrev names : List (List ℕ)
  names = map edge_leaves (edges_of cells)

  abbrev ranks : List (List ℕ)
  ranks = map (map (rank_of (edges_of cells))) cells

  sorted : IsStrictlySortedBy edge_cmp es
  sorted = sets.sorted-each_once (flat_map (λ (cell : List Edge). cell) cells)

  -- an edge stands at its rank
  rank_is : (e : Edge) → (c : Contains es e) → rank e ≡ c.0
  rank_is e c = ap rank (sym c.2) ∙ rank-at es c.0 e sorted c.1

  rank_below : (e : Edge) → Contains es e → rank e < length es
  rank_below e c = subst (λ n. n < length es) (sym (rank_is e c)) c.1

  rank_at : (e : Edge) → Contains es e → get_or es (rank e) e ≡ e
  rank_at e c = ap (λ n. get_or es n e) (rank_is e c) ∙ c.2

  -- edges of one rank are one
  same_rank : (d e : Edge) → Contains es d → Contains es e → rank d ≡ rank e → d ≡ e
  same_rank d e of_d of_e same =
      let at_e : get_or es (rank e) d ≡ e = ap (λ n. get_or es n d) (rank_is e of_e) ∙ default_is of_e.0 of_e.1 ∙ of_e.2 in
      sym (rank_at d of_d) ∙ ap (λ n. get_or es n d) same ∙ at_e
    where
      default_is : (n : ℕ) → n < length es → get_or es n d ≡ get_or es n e
      default_is n less = get_or_default es n d e less

  -- the edges of a cell are among all
  in_all : (part : List (List Edge)) → ((e : Edge) → Contains (flat_map (λ (cell : List Edge). cell) part) e → Contains es e) → All (All (Contains es)) part
  in_all [] among = All-nil (All (Contains es))
  in_all (cell ∷ rest) among =
      All-cons (All (Contains es)) cell rest
      (λ k d less. among (get_or cell k d) (Contains-append_left cell (flat_map (λ (c : List Edge). c) rest) (get_or cell k d) (Contains-item cell k d less)))
      (in_all rest (λ e c. among e (Contains-append_right cell (flat_map (λ (p : List Edge). p) rest) e c)))

  are_in : All (All (Contains es)) cells
  are_in = in_all cells (sets.in-each_once (flat_map (λ (cell : List Edge). cell) cells))

  -- different edges have different ranks
  ranks_apart : (cell : List Edge) → All (Contains es) cell → AreApart cell → AreApart (map rank cell)
  ranks_apart [] each apart = tt
  ranks_apart (e ∷ rest) each apart = (
    All-map (λ r. rank e ≢ r) rank rest (λ k d less same.
        apart.0 k d less (same_rank e (get_or rest k d) (All-head (Contains es) e rest each) (All-tail (Contains es) e rest each k d less) same)),
    ranks_apart rest (All-tail (Contains es) e rest each) apart.1,
  )

  cell_is : (cell : List Edge) → All (Contains es) cell → IsTriangle cell → IsCell (length names) (map rank cell)
  cell_is cell each triangle =
      let long : length (map rank cell) ≡ 3 = length-map_of rank cell ∙ triangle.three in
      record {
        some = omega (arith, long);
        most = omega (arith, long);
        below = All-map (λ r. r < length names) rank cell (λ k d less. subst (λ n. rank (get_or cell k d) < n) (sym (length-map_of edge_leaves es)) (rank_below (get_or cell k d) (each k d less)));
        apart = ranks_apart cell each triangle.apart;
      }

  -- each edge is one of a cell
  used : AreUsed (length names) ranks
  used r below =
      let flat : List Edge = flat_map (λ (cell : List Edge). cell) cells in
      let less : r < length es = subst (λ n. r < n) (length-map_of edge_leaves es) below in
      let none : Edge = record { low = 0; high = 0 } in
      let e : Edge = get_or es r none in
      let has : Contains flat e = sets.of-each_once flat e (Contains-item es r none less) in
      let there : Contains (map rank flat) r = (
        has.0,
        subst (λ n. has.0 < n) (sym (length-map_of rank flat)) has.1,
        get_or-map_of rank flat has.0 e r has.1 ∙ ap rank has.2 ∙ rank-at es r none sorted less,
      ) in
      subst (λ l. Contains l r) (sym (map-pieces rank cells)) there

  pub are_ranks : (points : List Point) → All IsTriangle cells → length names ≤ 2 ^ 32 → length points ≡ length names → AreRanks names points ranks
  are_ranks points triangles few matched = record {
    rule = record {
      ascending = names_ascend cells;
      matched = matched;
      few = few;
      each = All-map (IsCell (length names)) (map rank) cells (λ k d less. cell_is (get_or cells k d) (are_in k d less) (triangles k d less));
    };
    used = used;
  }

  -- by names the cells are those by edges
  named_cell : (cell : List Edge) → All (Contains es) cell → names_at names (map rank cell) ≡ map edge_leaves cell
  named_cell [] each = refl
  named_cell (e ∷ rest) each =
      let c = All-head (Contains es) e rest each in
      ap₂ (λ n ns. n ∷ ns)
      (get_or-map_of edge_leaves es (rank e) e [] (rank_below e c) ∙ ap edge_leaves (rank_at e c))
      (named_cell rest (All-tail (Contains es) e rest each))

  named_cells : (part : List (List Edge)) → All (All (Contains es)) part → by_names names (map (map rank) part) ≡ map (map edge_leaves) part
  named_cells [] each = refl
  named_cells (cell ∷ rest) each =
      ap₂ (λ n ns. n ∷ ns) (named_cell cell (All-head (All (Contains es)) cell rest each)) (named_cells rest (All-tail (All (Contains es)) cell rest each))

  pub by_edges : by_names names ranks ≡ map (map edge_leaves) cells
  by_edges = named_cells cells are_in

-- the same of names and cells that are equal to these
pub are_ranks_of : (cells : List (List Edge)) (ns rs : List (List ℕ)) (points : List Point) → ns ≡ map edge_leaves (edges_of cells) → rs ≡ map (map (rank_of (edges_of cells))) cells
    → All IsTriangle cells → length ns < 2 ^ 32 → length points ≡ length ns → AreRanks ns points rs
are_ranks_of cells ns rs points are_names are_ranked triangles few matched =
    let long = ap length are_names in
    subst (λ l. AreRanks l points rs) (sym are_names)
    (subst (AreRanks (map edge_leaves (edges_of cells)) points) (sym are_ranked) (are_ranks cells points triangles (omega (arith, few, long)) (matched ∙ long)))

pub cells_of : (cells : List (List Edge)) (ns rs : List (List ℕ)) → ns ≡ map edge_leaves (edges_of cells) → rs ≡ map (map (rank_of (edges_of cells))) cells
    → by_names ns rs ≡ map (map edge_leaves) cells
cells_of cells ns rs are_names are_ranked = ap₂ by_names are_names are_ranked ∙ by_edges cells
