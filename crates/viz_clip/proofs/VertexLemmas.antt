-- The vertices of a clip by their numbers.
use Rattle.std.proofs.Common.{◌≡◌, ◌≢◌, ℕ, zero, suc, ◌+◌, ◌^◌, ◌<◌, ◌≤◌, Bool, true, false, not, ⊎_elim, List, [], ◌∷◌, ◌++◌, length, get_or, map, Ordering, Less, is_lt, refl, sym, ap, ap₂, subst, ◌∙◌, append_assoc, true≢false, arith}
use Rattle.std.specs.List.{All, AllByRecursion, Contains, count_by, flat_map, range_with_len}
use Rattle.std.specs.List.Sorted.{IsStrictlySortedBy}
use Rattle.std.specs.Ordering.{nat_cmp}
use Rattle.std.proofs.Math.ListN.{get_or-append}
use Rattle.std.proofs.lemmas.Bool.{cases_lt}
use Rattle.std.proofs.lemmas.Cmp.{nat_cmp_total}
use Rattle.std.proofs.lemmas.List.{get_or_default, get_or-append-add, get_or-map, length-append, length-map}
use Rattle.std.proofs.lemmas.List.FromFn.{get_or-map-range_with_len, get_or-range_with_len, length-range_with_len}
use Rattle.std.proofs.lemmas.List.Elements.{All-cons, All-contains, All-get_or, All-nil, Contains-get_or}
use Rattle.viz_fraction.specs.declared.forms.Form.{Form}
use Rattle.viz_sheet.specs.Kept.{kept, kept_rank}
use Rattle.viz_sheet.specs.Sheet.{SheetData, AreAscending}
use Rattle.viz_sheet.specs.Ranked.{names_at}
use Rattle.viz_sheet.proofs.KeptLemmas.{kept-at, kept-sorted, rank-below}
use Rattle.viz_sheet.proofs.PairOrder.{compare_as_ranks}
use Rattle.viz_sheet.proofs.RankLemmas.{count-of_first}
use Rattle.viz_meaning.proofs.ListLemmas.{all-map, map-twice}
use Rattle.viz_cells.specs.Steps.Keys.{IsEdgeKey, high_of, key_of, low_of}
use Rattle.viz_cells.specs.Steps.Numbered.{AreKeysOf}
use Rattle.viz_cells.proofs.EdgeLemmas.{AreGiven, flags_of}
use Rattle.viz_cells.proofs.KeyLemmas.{by-halves}
use Rattle.viz_clip_meaning.specs.declared.vertex.Vertex.{Vertex}
use Rattle.viz_clip_meaning.specs.declared.vertex.Vertex.TheVariants.{Corner, Cut}
use Rattle.viz_clip_meaning.specs.Vertices.{cut, vertex_cmp}
use Rattle.viz_clip_meaning.specs.Clip.{tets_in}
use Rattle.viz_clip_meaning.proofs.SpotLemmas.{corners-less, cut-down, cut-up, cuts-less, cuts-less_at, less}
use Rattle.viz_clip.specs.declared.numbers.Numbers.{Numbers}
use Rattle.viz_clip.specs.Steps.Corners.{flags_at, inside_of, outside_of}
use Rattle.viz_clip.specs.Steps.Keys.{IsTet, cell_keys, cut_keys, keys_in}
use Rattle.viz_clip.specs.Steps.Numbers.{CanNumber, corner_number, cut_number, numbered_in, rank_among, ranks_inside}
use Rattle.viz_clip.specs.Steps.Vertices.{cut_leaves, cut_of, leaf_at, vertices_in}
use Rattle.viz_clip.proofs.CellLemmas.{cell-rows, leaf-order, less-below}
use Rattle.viz_clip.proofs.CornerLemmas.{all-ascending, four-ascending}
use Rattle.viz_clip.proofs.ListLemmas.{all-kept, contains-flat, has-cut, kept-false, kept-true, sorted-append, sorted-map}
use Rattle.viz_clip.proofs.RowLemmas.{IsNamed, rows-all, rows-named, shape}

-- ---- ranks of keys

below_is : (k i : ℕ) → k < i → is_lt (nat_cmp k i) ≡ true
below_is k i h = grind (arith)

from_is : (k i : ℕ) → i ≤ k → is_lt (nat_cmp k i) ≡ false
from_is k i h = grind (arith)

pub rank-at_key : (keys : List ℕ) (i : ℕ) → IsStrictlySortedBy nat_cmp keys → i < length keys → rank_among keys (get_or keys i 0) ≡ i
rank-at_key keys i s l =
    count-of_first (λ k. is_lt (nat_cmp k (get_or keys i 0))) keys i 0 (omega arith)
    (λ k b. ap is_lt (compare_as_ranks nat_cmp_total keys k i 0 s (omega arith) l) ∙ below_is k i b)
    (λ k f b. ap is_lt (compare_as_ranks nat_cmp_total keys k i 0 s b l) ∙ from_is k i f)

-- a key stands at its rank
pub record StandsAt (keys : List ℕ) (key : ℕ) : Type 0 where
  pub below : rank_among keys key < length keys
  pub is : get_or keys (rank_among keys key) 0 ≡ key

pub stands : (keys : List ℕ) (key : ℕ) → IsStrictlySortedBy nat_cmp keys → Contains keys key → StandsAt keys key
stands keys key s c =
    let at : get_or keys c.0 0 ≡ key = get_or_default keys c.0 0 key c.1 ∙ c.2 in
    let rank : rank_among keys key ≡ c.0 = ap (rank_among keys) (sym at) ∙ rank-at_key keys c.0 s c.1 in
    record {
      below = subst (λ r. r < length keys) (sym rank) c.1;
      is = ap (λ r. get_or keys r 0) rank ∙ at;
    }

-- ---- cuts

-- the vertex of a key is the cut of its leaves
pub cut-named : (names : List (List ℕ)) (i j : ℕ) → AreAscending names → All (λ n. length n ≡ 1) names → length names ≤ 2 ^ 32 → i ≢ j → i < length names → j < length names
    → cut_of (cut_leaves names (key_of i j)) ≡ cut (leaf_at names i) (leaf_at names j)
cut-named names i j s sized few differ il jl =
    by-halves (λ a b. Cut (leaf_at names a) (leaf_at names b) ≡ cut (leaf_at names i) (leaf_at names j)) i j differ (omega (arith, few, il)) (omega (arith, few, jl))
    (λ r. sym (cut-up (leaf_at names i) (leaf_at names j) (leaf-order names i j s sized r jl)))
    (λ r. sym (cut-down (leaf_at names j) (leaf_at names i) (leaf-order names j i s sized r il)))

-- keys in order have cuts in order
keys-keep : (names : List (List ℕ)) → AreAscending names → All (λ n. length n ≡ 1) names → (j k : ℕ) → IsEdgeKey (length names) j → IsEdgeKey (length names) k → nat_cmp j k ≡ Less
    → vertex_cmp (cut_of (cut_leaves names j)) (cut_of (cut_leaves names k)) ≡ Less
keys-keep names s sized j k hj hk e =
    let l : j < k = less-below j k e in
    ⊎_elim
    (λ r.
    cuts-less (leaf_at names (low_of j)) (leaf_at names (high_of j)) (leaf_at names (low_of k)) (leaf_at names (high_of k))
    (leaf-order names (low_of j) (low_of k) s sized r (omega (arith, hk.rises, hk.below))))
    (λ f.
    let same : low_of j ≡ low_of k = omega (arith, f, l) in
    let r : high_of j < high_of k = omega (arith, f, l) in
    subst (λ a. vertex_cmp (cut_of (cut_leaves names j)) (Cut (leaf_at names a) (leaf_at names (high_of k))) ≡ Less) same
    (cuts-less_at (leaf_at names (low_of j)) (leaf_at names (high_of j)) (leaf_at names (high_of k)) (leaf-order names (high_of j) (high_of k) s sized r hk.below)))
    (cases_lt (low_of j) (low_of k))

-- ---- the list of vertices

-- the vertices of a sheet of which these points are inside and these keys are cut
abbrev pub vertices_by : List (List ℕ) → List Bool → List ℕ → List Vertex
vertices_by names flags keys = vertices_in (map (leaf_at names) (ranks_inside flags)) (map (cut_leaves names) keys)

-- how many corners stand in front
abbrev pub corner_count : List Bool → ℕ
corner_count flags = length (ranks_inside flags)

pub front-count : (names : List (List ℕ)) (flags : List Bool) → length (map Corner (map (leaf_at names) (ranks_inside flags))) ≡ corner_count flags
front-count names flags = length-map (map (leaf_at names) (ranks_inside flags)) Corner ∙ length-map (ranks_inside flags) (leaf_at names)

pub vertex-count : (names : List (List ℕ)) (flags : List Bool) (keys : List ℕ) → length (vertices_by names flags keys) ≡ corner_count flags + length keys
vertex-count names flags keys =
    length-append (map Corner (map (leaf_at names) (ranks_inside flags))) (map cut_of (map (cut_leaves names) keys))
    ∙ ap₂ (λ a b. a + b) (front-count names flags) (length-map (map (cut_leaves names) keys) cut_of ∙ length-map keys (cut_leaves names))

pub corner-below : (flags : List Bool) (r : ℕ) → get_or flags r false ≡ true → kept_rank flags r < corner_count flags
corner-below flags r m = rank-below flags (range_with_len 0 (length flags)) r (sym (length-range_with_len 0 (length flags))) m

ranked : (flags : List Bool) (r : ℕ) → r < length flags → get_or flags r false ≡ true → get_or (ranks_inside flags) (kept_rank flags r) 0 ≡ r
ranked flags r l m =
    kept-at flags (range_with_len 0 (length flags)) r 0 (sym (length-range_with_len 0 (length flags))) m
    ∙ get_or-range_with_len 0 (length flags) r 0 l ∙ zero-plus r
  where
    zero-plus : (k : ℕ) → 0 + k ≡ k
    zero-plus k = omega arith

-- the vertex of an inside corner
pub corner-at : (names : List (List ℕ)) (flags : List Bool) (keys : List ℕ) (r : ℕ) → r < length flags → get_or flags r false ≡ true
    → get_or (vertices_by names flags keys) (kept_rank flags r) (Corner 0) ≡ Corner (leaf_at names r)
corner-at names flags keys r l m =
    let R = ranks_inside flags in
    let k = kept_rank flags r in
    let b : k < length R = corner-below flags r m in
    let C = map (leaf_at names) R in
    let c : k < length C = subst (λ n. k < n) (sym (length-map R (leaf_at names))) b in
    get_or-append (map Corner C) (map cut_of (map (cut_leaves names) keys)) (Corner 0) k (subst (λ n. k < n) (sym (front-count names flags)) b)
    ∙ get_or-map Corner C k 0 (Corner 0) c
    ∙ ap Corner (get_or-map (leaf_at names) R k 0 0 b ∙ ap (leaf_at names) (ranked flags r l m))

-- the vertex of a key
pub key-at : (names : List (List ℕ)) (flags : List Bool) (keys : List ℕ) (k : ℕ) → k < length keys
    → get_or (vertices_by names flags keys) (corner_count flags + k) (Corner 0) ≡ cut_of (cut_leaves names (get_or keys k 0))
key-at names flags keys k l =
    let A = map Corner (map (leaf_at names) (ranks_inside flags)) in
    let L = map (cut_leaves names) keys in
    ap (λ n. get_or (vertices_by names flags keys) (n + k) (Corner 0)) (sym (front-count names flags))
    ∙ get_or-append-add A (map cut_of L) k (Corner 0)
    ∙ get_or-map cut_of L k [] (Corner 0) (subst (λ n. k < n) (sym (length-map keys (cut_leaves names))) l)
    ∙ ap cut_of (get_or-map (cut_leaves names) keys k 0 [] l)

-- ---- their order

range-sorted : (a n : ℕ) → IsStrictlySortedBy nat_cmp (range_with_len a n)
unfolding IsStrictlySortedBy
range-sorted a zero = tt
range-sorted a (suc n) = (after (a + 1) n (omega arith), range-sorted (a + 1) n)
  where
    after : (b m : ℕ) → a < b → AllByRecursion (λ y. nat_cmp a y ≡ Less) (range_with_len b m)
    after b zero h = tt
    after b (suc m) h = (less a b h, after (b + 1) m (omega (arith, h)))

pub inside-below : (flags : List Bool) → All (λ r. r < length flags) (ranks_inside flags)
inside-below flags =
    all-kept (λ r. r < length flags) flags (range_with_len 0 (length flags))
    (λ k d l.
    let within : k < length flags = subst (λ n. k < n) (length-range_with_len 0 (length flags)) l in
    subst (λ r. r < length flags) (sym (get_or-range_with_len 0 (length flags) k d within)) (omega (arith, within)))

-- a kept rank is that of an inside point
marked : (a : ℕ) (bs front : List Bool) (all : List Bool) → all ≡ front ++ bs → length front ≡ a → All (λ r. get_or all r false ≡ true) (kept bs (range_with_len a (length bs)))
marked a [] front all e l = All-nil (λ r. get_or all r false ≡ true)
marked a (b ∷ bs) front all e l =
    let here_at : get_or all a false ≡ b =
    ap (λ xs. get_or xs a false) e ∙ ap (λ m. get_or (front ++ b ∷ bs) m false) (sym l ∙ plus-zero (length front)) ∙ get_or-append-add front (b ∷ bs) 0 false in
    let rest = marked (a + 1) bs (front ++ b ∷ []) all (e ∙ sym (append_assoc front (b ∷ []) bs)) (length-append front (b ∷ []) ∙ ap (λ m. m + 1) l) in
    at b here_at rest
  where
    plus-zero : (m : ℕ) → m ≡ m + 0
    plus-zero m = omega arith

    at : (c : Bool) → get_or all a false ≡ c → All (λ r. get_or all r false ≡ true) (kept bs (range_with_len (a + 1) (length bs))) → All (λ r. get_or all r false ≡ true) (kept (c ∷ bs) (a ∷ range_with_len (a + 1) (length bs)))
    at true h rest = All-cons (λ r. get_or all r false ≡ true) a (kept bs (range_with_len (a + 1) (length bs))) h rest
    at false h rest = rest

pub inside-true : (flags : List Bool) → All (λ r. get_or flags r false ≡ true) (ranks_inside flags)
inside-true flags = marked 0 flags [] flags refl refl

corners-keep : (names : List (List ℕ)) → AreAscending names → All (λ n. length n ≡ 1) names → (r q : ℕ) → r < length names → q < length names → nat_cmp r q ≡ Less
    → vertex_cmp (Corner (leaf_at names r)) (Corner (leaf_at names q)) ≡ Less
corners-keep names s sized r q rl ql e = corners-less (leaf_at names r) (leaf_at names q) (leaf-order names r q s sized (less-below r q e) ql)

corner_cut : (a : ℕ) (cuts : List (List ℕ)) → AllByRecursion (λ v. vertex_cmp (Corner a) v ≡ Less) (map cut_of cuts)
corner_cut a [] = tt
corner_cut a (c ∷ cs) = (refl, corner_cut a cs)

pub vertices-sorted : (names : List (List ℕ)) (flags : List Bool) (keys : List ℕ) → AreAscending names → All (λ n. length n ≡ 1) names → length flags ≡ length names
    → IsStrictlySortedBy nat_cmp keys → All (IsEdgeKey (length names)) keys → IsStrictlySortedBy vertex_cmp (vertices_by names flags keys)
vertices-sorted names flags keys s sized matched sk edges =
    let R = ranks_inside flags in
    let C = map (leaf_at names) R in
    let below : All (λ r. r < length names) R = subst (λ n. All (λ r. r < n) R) matched (inside-below flags) in
    let first : IsStrictlySortedBy vertex_cmp (map Corner C) =
    subst (IsStrictlySortedBy vertex_cmp) (sym (map-twice Corner (leaf_at names) R))
    (sorted-map nat_cmp vertex_cmp (λ r. Corner (leaf_at names r)) (λ r. r < length names) (corners-keep names s sized) R below
    (kept-sorted nat_cmp flags (range_with_len 0 (length flags)) (range-sorted 0 (length flags)))) in
    let last : IsStrictlySortedBy vertex_cmp (map cut_of (map (cut_leaves names) keys)) =
    subst (IsStrictlySortedBy vertex_cmp) (sym (map-twice cut_of (cut_leaves names) keys))
    (sorted-map nat_cmp vertex_cmp (λ k. cut_of (cut_leaves names k)) (IsEdgeKey (length names)) (keys-keep names s sized) keys edges sk) in
    sorted-append vertex_cmp (map Corner C) (map cut_of (map (cut_leaves names) keys)) first last
    (all-map (λ v. AllByRecursion (λ w. vertex_cmp v w ≡ Less) (map cut_of (map (cut_leaves names) keys))) Corner C (λ k d l. corner_cut (get_or C k d) (map (cut_leaves names) keys)))
