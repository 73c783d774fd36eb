-- Where just the ends of a section's cells are flagged, the flagged edges are its names, and flags count its ranks.
use Rattle.std.proofs.Common.{◌≡◌, ℕ, zero, suc, ◌+◌, ◌-◌, ◌*◌, ◌/◌, min, slice_index, ◌<◌, ◌≤◌, Bool, true, false, List, [], ◌∷◌, length, get_or, map, refl, sym, ap, ap₂, subst, ◌∙◌, true≢false, arith}
use Rattle.std.specs.List.{All, Contains, flat_map}
use Rattle.std.specs.List.Sorted.{IsStrictlySortedBy}
use Rattle.std.proofs.lemmas.List.Elements.{Contains-append_left, Contains-append_right, Contains-get_or, All-nil, All-cons, All-contains}
use Rattle.std.proofs.lemmas.List.FromFn.{get_or-map-range_with_len, length-map-range_with_len}
use Rattle.std.proofs.Math.Nat.{mul-le-mul_left}
use Rattle.viz_extent.specs.Extent.{Bounds, size_x, size_y, plane_size, count_of}
use Rattle.viz_kuhn.specs.Cubes.{cubes_of, cubes_x, cubes_y, all_lowest, tetrahedra_of, six_at}
use Rattle.viz_kuhn.specs.Places.{Place}
use Rattle.viz_kuhn.proofs.CubeLemmas.{length-all_lowest}
use Rattle.viz_grid_section.specs.Edges.{Edge}
use Rattle.viz_grid_section.specs.Edges.{edges_of, rank_of}
use Rattle.viz_grid_section.specs.GridSection.{grid_cells, cells_in}
use Rattle.viz_grid_section.proofs.EdgeOrder.{edge_cmp}
use Rattle.viz_grid_section.proofs.EdgeSets.{each_once-from_members}
use Rattle.viz_grid_section.proofs.EdgeRanks.{rank-at}
use Rattle.viz_grid_section.proofs.MembersLemmas.{get_or-map_of, length-map_of, map-pieces, All-in_section}
use Rattle.viz_grid_section.proofs.TetrahedraLemmas.{are_tetrahedra}
use Rattle.viz_sheet.specs.Kept.{kept, kept_rank, AreMarks}
use Rattle.viz_sheet.proofs.KeptLemmas.{kept-at, rank-below, rank-from, kept-sorted}
use Rattle.viz_flags.specs.Edges.{edge, cells_by}
use Rattle.viz_flags.specs.Flagged.{all_edges, flagged, FlaggedAreEdges, FlagsAreRanks}
use Rattle.viz_flags.proofs.NumberOrder.{edges_rise}

-- an extent without cubes has no tetrahedron
empty_is : {X : Type 0} (xs : List X) → length xs ≡ 0 → xs ≡ []
empty_is [] e = refl
empty_is (x ∷ xs) e = absurd (omega arith)

pub no_section : (b : Bounds) (inside : List Bool) → cubes_of b ≡ 0 → grid_cells b inside ≡ []
no_section b inside none =
    let lowest : all_lowest b ≡ [] = empty_is (all_lowest b) (length-all_lowest b ∙ none) in
    ap (λ (ps : List Place). flat_map (cells_in inside) (flat_map (six_at b) ps)) lowest

-- an extent with a cube has rows and planes of more points than one
pub zero_left : (x y z : ℕ) → x ≡ 0 → x * y * z ≡ 0
zero_left x y z e = ap (λ n. n * y * z) e ∙ omega arith

pub zero_mid : (x y z : ℕ) → y ≡ 0 → x * y * z ≡ 0
zero_mid x y z e = ap (λ n. x * n * z) e ∙ omega arith

pub zero_right : (x y z : ℕ) → z ≡ 0 → x * y * z ≡ 0
zero_right x y z e = ap (λ n. x * y * n) e ∙ omega arith

row_wide : (b : Bounds) → 0 < cubes_x b → 1 < size_x b
row_wide b h = omega arith

plane_wide : (b : Bounds) → 0 < cubes_x b → 0 < cubes_y b → size_x b + 1 < plane_size b
plane_wide b h k =
    let two : 2 ≤ size_y b = omega arith in
    let more : size_x b * 2 ≤ size_x b * size_y b = mul-le-mul_left (size_x b) two in
    let wide : 1 < size_x b = row_wide b h in
    omega (arith, more, wide)

-- nothing is kept where nothing is marked
none_kept : {X : Type 0} (bits : List Bool) (xs : List X) → length bits ≡ length xs → ((r : ℕ) → get_or bits r false ≡ true → ⊥) → kept bits xs ≡ []
none_kept bits xs same none = empty_is (kept bits xs) (no_length (length (kept bits xs)) refl)
  where
    no_length : (n : ℕ) → length (kept bits xs) ≡ n → n ≡ 0
    no_length zero e = refl
    no_length (suc n) e = let found = rank-from bits xs n same (omega arith) in absurd (none found.0 found.1)

no_member : {X : Type 0} (y : X) → Contains [] y → ⊥
no_member y c = omega (arith, c.1)

module _ (row plane : ℕ) (bits : List Bool) (out : List (List ℕ)) (n : ℕ) (marks : AreMarks n out bits) where
  abbrev all : List Edge
  all = all_edges row plane (length bits)

  same : length bits ≡ length all
  same = sym (length-map-range_with_len (edge row plane) 0 (length bits))

  marked_below : (bs : List Bool) (r : ℕ) → get_or bs r false ≡ true → r < length bs
  marked_below [] r h = absurd (true≢false (sym h))
  marked_below (b ∷ bs) zero h = omega arith
  marked_below (b ∷ bs) (suc r) h = omega (arith, marked_below bs r h)

  at : (r : ℕ) (d : Edge) → get_or bits r false ≡ true → get_or all r d ≡ edge row plane r
  at r d h = get_or-map-range_with_len (edge row plane) 0 (length bits) r r d (marked_below bits r h) (omega arith)

  kept_at : (r : ℕ) (d : Edge) → get_or bits r false ≡ true → get_or (kept bits all) (kept_rank bits r) d ≡ edge row plane r
  kept_at r d h = kept-at bits all r d same h ∙ at r d h

  abbrev ns : List Edge
  ns = flat_map (λ (cell : List Edge). cell) (cells_by row plane out)

  abbrev flat : List ℕ
  flat = flat_map (λ (cell : List ℕ). cell) out

  ns_are : ns ≡ map (edge row plane) flat
  ns_are = map-pieces (edge row plane) out

  of_ns : (z : Edge) → Contains (kept bits all) z → Contains ns z
  of_ns z c =
      let found = rank-from bits all c.0 same c.1 in
      let r = found.0 in
      let is : edge row plane r ≡ z = sym (kept_at r z found.1) ∙ ap (λ k. get_or (kept bits all) k z) found.2 ∙ c.2 in
      let has = (marks.each r).0 found.1 in
      let k = has.0 in
      let less : k < length (map (edge row plane) flat) = subst (λ m. k < m) (sym (length-map_of (edge row plane) flat)) has.1 in
      let item : get_or (map (edge row plane) flat) k z ≡ z = get_or-map_of (edge row plane) flat k r z has.1 ∙ ap (edge row plane) has.2 ∙ is in
      subst (λ l. Contains l z) (sym ns_are) (k, less, item)

  in_ms : (z : Edge) → Contains ns z → Contains (kept bits all) z
  in_ms z c =
      let c2 = subst (λ l. Contains l z) ns_are c in
      let k = c2.0 in
      let less : k < length flat = subst (λ m. k < m) (length-map_of (edge row plane) flat) c2.1 in
      let r = get_or flat k 0 in
      let is : edge row plane r ≡ z = sym (get_or-map_of (edge row plane) flat k 0 z less) ∙ c2.2 in
      let marked = (marks.each r).1 (Contains-get_or flat k 0 less) in
      (kept_rank bits r, rank-below bits all r same marked, kept_at r z marked ∙ is)

  pub names_sorted : 1 < row → row + 1 < plane → IsStrictlySortedBy edge_cmp (kept bits all)
  names_sorted wide high = kept-sorted edge_cmp bits all (edges_rise row plane wide high 0 (length bits))

  pub names_are : IsStrictlySortedBy edge_cmp (kept bits all) → kept bits all ≡ edges_of (cells_by row plane out)
  names_are s = each_once-from_members ns (kept bits all) s of_ns in_ms

  rank_is : IsStrictlySortedBy edge_cmp (kept bits all) → (r : ℕ) → get_or bits r false ≡ true → kept_rank bits r ≡ rank_of (kept bits all) (edge row plane r)
  rank_is s r h =
      let d = edge row plane r in
      sym (rank-at (kept bits all) (kept_rank bits r) d s (rank-below bits all r same h)) ∙ ap (rank_of (kept bits all)) (kept_at r d h)

  cell_ranks : IsStrictlySortedBy edge_cmp (kept bits all) → (cell : List ℕ) → ((r : ℕ) → Contains cell r → get_or bits r false ≡ true)
      → map (kept_rank bits) cell ≡ map (rank_of (kept bits all)) (map (edge row plane) cell)
  cell_ranks s [] h = refl
  cell_ranks s (r ∷ rs) h =
      ap₂ (λ x xs. x ∷ xs) (rank_is s r (h r (0, omega arith, refl)))
      (cell_ranks s rs (λ q c. h q (suc c.0, omega (arith, c.1), c.2)))

  ranks_of : IsStrictlySortedBy edge_cmp (kept bits all) → (cells : List (List ℕ)) → ((r : ℕ) → Contains (flat_map (λ (cell : List ℕ). cell) cells) r → get_or bits r false ≡ true)
      → map (λ cell. map (kept_rank bits) cell) cells ≡ map (λ cell. map (rank_of (kept bits all)) cell) (cells_by row plane cells)
  ranks_of s [] h = refl
  ranks_of s (cell ∷ cells) h =
      ap₂ (λ x xs. x ∷ xs)
      (cell_ranks s cell (λ r c. h r (Contains-append_left cell (flat_map (λ (p : List ℕ). p) cells) r c)))
      (ranks_of s cells (λ r c. h r (Contains-append_right cell (flat_map (λ (p : List ℕ). p) cells) r c)))

  pub ranks_are : IsStrictlySortedBy edge_cmp (kept bits all) → map (λ cell. map (kept_rank bits) cell) out ≡ map (λ cell. map (rank_of (kept bits all)) cell) (cells_by row plane out)
  ranks_are s = ranks_of s out (λ r c. (marks.each r).1 c)

-- where there is no cell, nothing is flagged
no_cells : (row plane : ℕ) (out : List (List ℕ)) → cells_by row plane out ≡ [] → out ≡ []
no_cells row plane out e = empty_is out (sym (length-map_of (λ (cell : List ℕ). map (edge row plane) cell) out) ∙ ap length e)

nothing_flagged : (bits : List Bool) (out : List (List ℕ)) (n : ℕ) → AreMarks n out bits → out ≡ [] → (r : ℕ) → get_or bits r false ≡ true → ⊥
nothing_flagged bits out n marks e r h =
    no_member r (subst (λ (cells : List (List ℕ)). Contains (flat_map (λ (cell : List ℕ). cell) cells) r) e ((marks.each r).0 h))

-- a grid's names are sorted, with cubes or without
sorted_always : (b : Bounds) (inside bits : List Bool) (out : List (List ℕ)) → cells_by (size_x b) (plane_size b) out ≡ grid_cells b inside
    → AreMarks (8 * count_of b) out bits → IsStrictlySortedBy edge_cmp (kept bits (all_edges (size_x b) (plane_size b) (length bits)))
unfolding IsStrictlySortedBy
sorted_always b inside bits out is marks = by_x (cubes_x b) refl
  where
    row : ℕ
    row = size_x b

    plane : ℕ
    plane = plane_size b

    names : List Edge
    names = kept bits (all_edges row plane (length bits))

    without : cubes_of b ≡ 0 → IsStrictlySortedBy edge_cmp names
    without none =
        let empty : out ≡ [] = no_cells row plane out (is ∙ no_section b inside none) in
        let kept_none : names ≡ [] = none_kept bits (all_edges row plane (length bits)) (sym (length-map-range_with_len (edge row plane) 0 (length bits))) (nothing_flagged bits out (8 * count_of b) marks empty) in
        subst (λ (l : List Edge). IsStrictlySortedBy edge_cmp l) (sym kept_none) tt

    by_y : 0 < cubes_x b → (m : ℕ) → cubes_y b ≡ m → IsStrictlySortedBy edge_cmp names
    by_y x zero e = without (zero_mid (cubes_x b) (cubes_y b) (b.z1 - b.z0) e)
    by_y x (suc m) e = names_sorted row plane bits out (8 * count_of b) marks (row_wide b x) (plane_wide b x (omega arith))

    by_x : (m : ℕ) → cubes_x b ≡ m → IsStrictlySortedBy edge_cmp names
    by_x zero e = without (zero_left (cubes_x b) (cubes_y b) (b.z1 - b.z0) e)
    by_x (suc m) e = by_y (omega arith) (cubes_y b) refl

pub flagged_are_edges : FlaggedAreEdges
unfolding flagged
flagged_are_edges b inside bits out is marks =
    names_are (size_x b) (plane_size b) bits out (8 * count_of b) marks (sorted_always b inside bits out is marks) ∙ ap edges_of is

pub flags_are_ranks : FlagsAreRanks
flags_are_ranks b inside bits out is marks =
    let row = size_x b in
    let plane = plane_size b in
    let s = sorted_always b inside bits out is marks in
    let names = names_are row plane bits out (8 * count_of b) marks s ∙ ap edges_of is in
    ranks_are row plane bits out (8 * count_of b) marks s
    ∙ ap₂ (λ (ns : List Edge) (cells : List (List Edge)). map (λ cell. map (rank_of ns) cell) cells) names is

-- ---- the numbers of a section's edges are below the count of all

each_in : (Q : ℕ → Type 0) (cells : List (List ℕ)) → ((r : ℕ) → Contains (flat_map (λ (cell : List ℕ). cell) cells) r → Q r) → All (All Q) cells
each_in Q [] h = All-nil (All Q)
each_in Q (c ∷ cs) h =
    All-cons (All Q) c cs
    (λ k d b. h (get_or c k d) (Contains-append_left c (flat_map (λ (cell : List ℕ). cell) cs) (get_or c k d) (Contains-get_or c k d b)))
    (each_in Q cs (λ r i. h r (Contains-append_right c (flat_map (λ (cell : List ℕ). cell) cs) r i)))

IsLow : ℕ → Edge → Type 0
IsLow count z = z.low < count

low_names : (b : Bounds) (inside : List Bool) → All (IsLow (count_of b)) (flat_map (λ (cell : List Edge). cell) (grid_cells b inside))
unfolding IsLow
low_names b inside =
    All-in_section (IsLow (count_of b)) b inside (λ k d less i j order within apart.
    let t = are_tetrahedra b k d less in
    let leaves = get_or (tetrahedra_of b) k d in
    least_low (slice_index leaves i) (slice_index leaves j) (count_of b) (t.within i 0 (omega (arith, t.four))))
  where
    least_low : (p q n : ℕ) → p < n → min p q < n
    least_low p q n h = grind arith

pub numbers_below : (b : Bounds) (inside : List Bool) (out : List (List ℕ)) → cells_by (size_x b) (plane_size b) out ≡ grid_cells b inside
    → All (All (λ r. r < 8 * count_of b)) out
unfolding IsLow edge
numbers_below b inside out is =
    each_in (λ r. r < 8 * count_of b) out (λ r c.
    let name = edge (size_x b) (plane_size b) in
    let flat = flat_map (λ (cell : List ℕ). cell) out in
    let k = c.0 in
    let less : k < length (map name flat) = subst (λ m. k < m) (sym (length-map_of name flat)) c.1 in
    let item : get_or (map name flat) k (name r) ≡ name r = get_or-map_of name flat k r (name r) c.1 ∙ ap name c.2 in
    let names : map name flat ≡ flat_map (λ (cell : List Edge). cell) (grid_cells b inside) = sym (map-pieces name out) ∙ ap (λ (cells : List (List Edge)). flat_map (λ (cell : List Edge). cell) cells) is in
    let has : Contains (flat_map (λ (cell : List Edge). cell) (grid_cells b inside)) (name r) = subst (λ (ns : List Edge). Contains ns (name r)) names (k, less, item) in
    let low : r / 8 < count_of b = All-contains (IsLow (count_of b)) (flat_map (λ (cell : List Edge). cell) (grid_cells b inside)) (name r) (low_names b inside) has in
    omega (arith, low))
