-- The cells of a section by the ranks of their keys are cells of a sheet.
use Rattle.std.proofs.Common.{◌≡◌, ◌≢◌, ℕ, ◌^◌, ◌<◌, ◌≤◌, List, [], ◌∷◌, length, get_or, map, refl, sym, ap, ap₂, subst, ◌∙◌, arith}
use Rattle.std.specs.List.{All, Contains, flat_map}
use Rattle.std.specs.List.Sorted.{IsStrictlySortedBy}
use Rattle.std.specs.Ordering.{nat_cmp}
use Rattle.std.proofs.lemmas.Cmp.{nat_cmp_total, tied_itself}
use Rattle.std.proofs.lemmas.List.{get_or-map, length-map}
use Rattle.std.proofs.lemmas.List.Elements.{All-nil, All-cons, All-head, All-tail, Contains-get_or}
use Rattle.std.proofs.lemmas.Map.Lookups.{exact_unsigned}
use Rattle.viz_fraction.specs.Points.{Point}
use Rattle.viz_sheet.specs.Sheet.{AreApart, AreAscending}
use Rattle.viz_sheet.specs.Ranked.{AreRanks, IsCell, by_names, names_at}
use Rattle.viz_sheet.proofs.PairOrder.{compare_as_ranks}
use Rattle.viz_cells.specs.Steps.Numbered.{AreKeysOf, AreNumbered, keys_at}
use Rattle.viz_cells.proofs.EdgeLemmas.{IsWholePiece}
use Rattle.viz_meaning.proofs.ListLemmas.{all-flat, flat-map, contains-unmap}

-- equal keys have one rank
one_rank : (keys : List ℕ) (i j : ℕ) → IsStrictlySortedBy nat_cmp keys → i < length keys → j < length keys → get_or keys i 0 ≡ get_or keys j 0 → i ≡ j
one_rank keys i j s il jl e =
    exact_unsigned i j
    (sym (compare_as_ranks nat_cmp_total keys i j 0 s il jl) ∙ ap (λ k. nat_cmp k (get_or keys j 0)) e ∙ tied_itself nat_cmp_total (get_or keys j 0))

-- ---- cells

apart-ranks : (keys cell : List ℕ) → AreApart (keys_at keys cell) → AreApart cell
apart-ranks keys [] a = tt
apart-ranks keys (r ∷ rs) a = (others rs a.0, apart-ranks keys rs a.1)
  where
    others : (qs : List ℕ) → All (λ k. get_or keys r 0 ≢ k) (keys_at keys qs) → All (λ q. r ≢ q) qs
    others [] h = All-nil (λ q. r ≢ q)
    others (q ∷ qs) h =
        All-cons (λ p. r ≢ p) q qs (λ e. All-head (λ k. get_or keys r 0 ≢ k) (get_or keys q 0) (keys_at keys qs) h (ap (λ p. get_or keys p 0) e))
        (others qs (All-tail (λ k. get_or keys r 0 ≢ k) (get_or keys q 0) (keys_at keys qs) h))

cell-ranked : (keys cell : List ℕ) → IsWholePiece (keys_at keys cell) → All (λ r. r < length keys) cell → IsCell (length keys) cell
cell-ranked keys cell w b =
    let size = length-map cell (λ r. get_or keys r 0) in record {
      some = omega (arith, size, w.some);
      most = omega (arith, size, w.most);
      below = b;
      apart = apart-ranks keys cell w.apart;
    }

cells-ranked : (keys : List ℕ) (cells : List (List ℕ)) → All IsWholePiece (map (keys_at keys) cells) → All (All (λ r. r < length keys)) cells → All (IsCell (length keys)) cells
cells-ranked keys [] w b = All-nil (IsCell (length keys))
cells-ranked keys (c ∷ cs) w b =
    All-cons (IsCell (length keys)) c cs
    (cell-ranked keys c (All-head IsWholePiece (keys_at keys c) (map (keys_at keys) cs) w) (All-head (All (λ r. r < length keys)) c cs b))
    (cells-ranked keys cs (All-tail IsWholePiece (keys_at keys c) (map (keys_at keys) cs) w) (All-tail (All (λ r. r < length keys)) c cs b))

-- each rank is that of a cell
used : (keys : List ℕ) (pieces cells : List (List ℕ)) → AreKeysOf pieces keys → AreNumbered keys pieces cells → (r : ℕ) → r < length keys → Contains (flat_map (λ cell. cell) cells) r
used keys pieces cells of h r l =
    let all = flat_map (λ cell. cell) cells in
    let key = get_or keys r 0 in
    let flat : map (λ q. get_or keys q 0) all ≡ flat_map (λ piece. piece) pieces = sym (flat-map (λ q. get_or keys q 0) cells) ∙ ap (flat_map (λ piece. piece)) h.same in
    let in_pieces : Contains (flat_map (λ piece. piece) pieces) key = (of.members key).0 (Contains-get_or keys r 0 l) in
    let q = contains-unmap (λ q. get_or keys q 0) all key (subst (λ m. Contains m key) (sym flat) in_pieces) in
    let below : q.0 < length keys = subst (λ p. p < length keys) q.1.2 (all-flat (λ p. p < length keys) cells h.below q.1.0 q.0 q.1.1) in
    subst (Contains all) (one_rank keys q.0 r of.ascending below l q.2) q.1

pub ranked : (name : ℕ → List ℕ) (keys : List ℕ) (points : List Point) (pieces cells : List (List ℕ)) → AreAscending (map name keys) → length points ≡ length keys → length keys ≤ 2 ^ 32
    → AreKeysOf pieces keys → AreNumbered keys pieces cells → All IsWholePiece pieces → AreRanks (map name keys) points cells
ranked name keys points pieces cells ascending matched few of h whole =
    let size = length-map keys name in record {
      rule = record {
        ascending = ascending;
        matched = matched ∙ sym size;
        few = omega (arith, size, few);
        each = subst (λ n. All (IsCell n) cells) (sym size) (cells-ranked keys cells (subst (All IsWholePiece) (sym h.same) whole) h.below);
      };
      used = λ r l. used keys pieces cells of h r (omega (arith, size, l));
    }

-- ---- by names

named : (name : ℕ → List ℕ) (keys cell : List ℕ) → All (λ r. r < length keys) cell → names_at (map name keys) cell ≡ map name (keys_at keys cell)
named name keys [] b = refl
named name keys (r ∷ rs) b =
    ap₂ (λ x ys. x ∷ ys) (get_or-map name keys r 0 [] (All-head (λ q. q < length keys) r rs b)) (named name keys rs (All-tail (λ q. q < length keys) r rs b))

pub all-named : (name : ℕ → List ℕ) (keys : List ℕ) (cells : List (List ℕ)) → All (All (λ r. r < length keys)) cells → by_names (map name keys) cells ≡ map (map name) (map (keys_at keys) cells)
all-named name keys [] b = refl
all-named name keys (c ∷ cs) b =
    ap₂ (λ x ys. x ∷ ys) (named name keys c (All-head (All (λ r. r < length keys)) c cs b)) (all-named name keys cs (All-tail (All (λ r. r < length keys)) c cs b))
