-- The ranks of a sheet of triangles between edges are three different ranks, and its edges ascend.
use Rattle.std.proofs.Common.{◌≡◌, ℕ, List, [], ◌∷◌, map, length, get_or, Less, nat_cmp, refl, sym, ap, ◌∙◌, arith}
use Rattle.std.specs.Ordering.{ordering_then}
use Rattle.std.specs.Cmp.Lexicographic.{slice_cmp}
use Rattle.std.specs.List.{All, AllByRecursion}
use Rattle.std.specs.List.Sorted.{IsStrictlySortedBy}
use Rattle.std.proofs.lemmas.List.Elements.{All-cons, All-head, All-tail}
use Rattle.viz_grid_section.proofs.EdgeOrder.{edge_cmp}
use Rattle.viz_grid_section.proofs.MembersLemmas.{length-map_of}
use Rattle.viz_grid_section.proofs.NamedCells.{map-after, then_equal}
use Rattle.viz_sheet.specs.Ranked.{IsCell, by_names, names_at}
use Rattle.viz_surface_law.proofs.Sharing.FacetTable.{Each}
use Rattle.viz_surface_law.specs.Surfaces.{edge_named, by_edges}
use Rattle.viz_surface_law.specs.Steps.Ranked.{edges_by, IsTriangle}
use Rattle.viz_surface_law.proofs.Ranks.{Sorted}

-- ---- ranks

one_triangle : (count : ℕ) (cell : List ℕ) → IsCell count cell → length cell ≡ 3 → IsTriangle count cell
one_triangle count (p ∷ q ∷ r ∷ []) rule three =
    let a = rule.apart in (
      rule.below 0 0 (omega arith),
      rule.below 1 0 (omega arith),
      rule.below 2 0 (omega arith),
      a.0 0 0 (omega arith),
      a.1.0 0 0 (omega arith),
      λ e. a.0 1 0 (omega arith) (sym e),
    )
one_triangle count [] rule three = absurd (omega (arith, three))
one_triangle count (p ∷ []) rule three = absurd (omega (arith, three))
one_triangle count (p ∷ q ∷ []) rule three = absurd (omega (arith, three))
one_triangle count (p ∷ q ∷ r ∷ s ∷ rest) rule three = absurd (omega (arith, three))

-- the cells of a sheet have as many ranks as names
pub three_ranks : (names : List (List ℕ)) (ranks : List (List ℕ)) → All (λ cell. length cell ≡ 3) (by_names names ranks) → All (λ cell. length cell ≡ 3) ranks
three_ranks names [] three = λ k d less. absurd (omega (arith, less))
three_ranks names (cell ∷ rest) three =
    let first = sym (length-map_of (λ r. get_or names r []) cell) ∙ All-head (λ c. length c ≡ 3) (names_at names cell) (by_names names rest) three in
    All-cons (λ c. length c ≡ 3) cell rest first (three_ranks names rest (All-tail (λ c. length c ≡ 3) (names_at names cell) (by_names names rest) three))

pub triangles-from_cells : (count : ℕ) (ranks : List (List ℕ)) → All (IsCell count) ranks → All (λ cell. length cell ≡ 3) ranks → Each (IsTriangle count) ranks
triangles-from_cells count [] rule three = tt
triangles-from_cells count (cell ∷ rest) rule three = (
  one_triangle count cell (All-head (IsCell count) cell rest rule) (All-head (λ c. length c ≡ 3) cell rest three),
  triangles-from_cells count rest (All-tail (IsCell count) cell rest rule) (All-tail (λ c. length c ≡ 3) cell rest three),
)

-- ---- cells

-- cells by ranks have the same edges as by names
pub edges-by_names : (names : List (List ℕ)) (ranks : List (List ℕ)) → edges_by names ranks ≡ by_edges (by_names names ranks)
edges-by_names names [] = refl
edges-by_names names (cell ∷ rest) =
    let first = sym (map-after edge_named (λ r. get_or names r []) cell) in
    let others = edges-by_names names rest in
    λ t. first t ∷ others t

-- ---- edges

-- names of two leaves compare as their edges
compare : (m n : List ℕ) → length m ≡ 2 → length n ≡ 2 → slice_cmp nat_cmp m n ≡ edge_cmp (edge_named m) (edge_named n)
compare (a ∷ b ∷ []) (c ∷ d ∷ []) two too = ap (λ o. ordering_then (nat_cmp a c) o) (then_equal (nat_cmp b d))
compare (a ∷ b ∷ []) [] two too = absurd (omega (arith, too))
compare (a ∷ b ∷ []) (c ∷ []) two too = absurd (omega (arith, too))
compare (a ∷ b ∷ []) (c ∷ d ∷ e ∷ rest) two too = absurd (omega (arith, too))
compare [] n two too = absurd (omega (arith, two))
compare (a ∷ []) n two too = absurd (omega (arith, two))
compare (a ∷ b ∷ c ∷ rest) n two too = absurd (omega (arith, two))

pub edges_ascend : (names : List (List ℕ)) → All (λ n. length n ≡ 2) names → IsStrictlySortedBy (slice_cmp nat_cmp) names → Sorted names
unfolding IsStrictlySortedBy
edges_ascend [] two s = tt
edges_ascend (n ∷ ns) two s =
    let first = All-head (λ m. length m ≡ 2) n ns two in
    let rest = All-tail (λ m. length m ≡ 2) n ns two in
    (below ns first rest s.0, edges_ascend ns rest s.1)
  where
    below : (ms : List (List ℕ)) → length n ≡ 2 → All (λ m. length m ≡ 2) ms → AllByRecursion (λ m. slice_cmp nat_cmp n m ≡ Less) ms
        → AllByRecursion (λ e. edge_cmp (edge_named n) e ≡ Less) (map edge_named ms)
    below [] first rest a = tt
    below (m ∷ ms) first rest a = (
      sym (compare n m first (All-head (λ k. length k ≡ 2) m ms rest)) ∙ a.0,
      below ms first (All-tail (λ k. length k ≡ 2) m ms rest) a.1,
    )
