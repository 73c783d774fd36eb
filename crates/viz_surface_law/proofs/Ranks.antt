-- Sides by ranks are sides by names.
use Rattle.std.proofs.Common.{◌≡◌, ◌≢◌, ℕ, zero, suc, ◌+◌, ◌*◌, ◌^◌, ◌<◌, ◌≤◌, Bool, true, false, cond, ◌||◌, if◌then◌else◌, inl, inr, List, [], ◌∷◌, map, length, get_or, nat_eq, nat_lt, refl, sym, ap, ◌∙◌, arith}
use Rattle.std.specs.Prelude.{◌⊎◌, count_by, sum_by}
use Rattle.std.specs.List.{flat_map, list_any}
use Rattle.std.specs.List.Sorted.{IsStrictlySortedBy}
use Rattle.std.specs.Set.{unique_keys, is_member}
use Rattle.std.proofs.lemmas.Bool.Decides.{nat_tests, same_from_decides, Decides-eqb, Decides-like}
use Rattle.std.proofs.lemmas.List.Sums.{sum_by-cons}
use Rattle.std.proofs.lemmas.Map.Keys.{Less-from_sorted}
use Rattle.viz_grid_section.specs.Edges.{Edge, is_before, rank_of}
use Rattle.viz_grid_section.proofs.EdgeOrder.{edge_cmp, less-before, after-not_before}
use Rattle.viz_grid_section.proofs.MembersLemmas.{length-map_of}
use Rattle.viz_surface_law.specs.Surfaces.{edge_named}
use Rattle.viz_grid_section.proofs.EdgeRanks.{rank-at}
use Rattle.viz_surface_law.specs.Sides.{Side, side, turned, sides_of, same_side}
use Rattle.viz_surface_law.specs.Audit.{undirected}
use Rattle.viz_surface_law.specs.Steps.Keys.{half, key_of, keys_in}
use Rattle.viz_surface_law.specs.Closed.{run_through}
use Rattle.viz_surface_law.specs.Steps.Ranked.{edge_at, edges_by, IsTriangle}
use Rattle.viz_surface_law.proofs.Sharing.ListCounts.{sum_by-same, sum_by-map, count_by-flat_map}
use Rattle.viz_surface_law.proofs.Law.{any_once}
use Rattle.viz_surface_law.proofs.PassLaw.{uniq}
use Rattle.viz_surface_law.proofs.Sharing.FacetTable.{Each, Each_at}
use Rattle.viz_surface_law.proofs.Cuts.{same_side-decides}

-- ---- names by rank

no_edge : Edge
no_edge = record { low = 0; high = 0 }

-- the edges of names ascend
abbrev pub Sorted : List (List ℕ) → Type 0
Sorted names = IsStrictlySortedBy edge_cmp (map edge_named names)

-- the edge of the name of a rank stands at that rank
at_rank : (names : List (List ℕ)) (p : ℕ) → edge_at names p ≡ get_or (map edge_named names) p no_edge
unfolding no_edge
at_rank [] p = refl
at_rank (n ∷ ns) zero = refl
at_rank (n ∷ ns) (suc p) = at_rank ns p

-- ranks of one edge are one
rank_tells : (names : List (List ℕ)) (p q : ℕ) → Sorted names → p < length names → q < length names → edge_at names p ≡ edge_at names q → p ≡ q
rank_tells names p q s in_p in_q e =
    let edges = map edge_named names in
    let long = length-map_of edge_named names in
    let same : get_or edges p no_edge ≡ get_or edges q no_edge = sym (at_rank names p) ∙ e ∙ at_rank names q in
    sym (rank-at edges p no_edge s (omega (arith, long, in_p))) ∙ ap (rank_of edges) same ∙ rank-at edges q no_edge s (omega (arith, long, in_q))

-- names come in the order of their ranks
before_by_rank : (names : List (List ℕ)) (p q : ℕ) → Sorted names → p < length names → q < length names → p ≢ q → is_before (edge_at names p) (edge_at names q) ≡ nat_lt p q
before_by_rank names p q s in_p in_q apart =
    (λ t. is_before (at_rank names p t) (at_rank names q t)) ∙ cases (compare p q apart)
  where
    within : (r : ℕ) → r < length names → r < length (map edge_named names)
    within r less = omega (arith, length-map_of edge_named names, less)

    compare : (p q : ℕ) → p ≢ q → (p < q) ⊎ (q < p)
    compare p q apart = grind (arith, apart)

    cases : (p < q) ⊎ (q < p) → is_before (get_or (map edge_named names) p no_edge) (get_or (map edge_named names) q no_edge) ≡ nat_lt p q
    cases (inl less) =
        less-before (get_or (map edge_named names) p no_edge) (get_or (map edge_named names) q no_edge) (Less-from_sorted edge_cmp (map edge_named names) p q no_edge s less (within q in_q))
        ∙ sym (grind (arith, nat_tests))
    cases (inr more) =
        after-not_before (get_or (map edge_named names) p no_edge) (get_or (map edge_named names) q no_edge) (Less-from_sorted edge_cmp (map edge_named names) q p no_edge s more (within p in_p))
        ∙ sym (grind (arith, nat_tests))

-- ---- one list of directed sides, seen by names and by keys

-- two ranks
pub record Pair : Type 0 where
  pub p : ℕ
  pub q : ℕ

abbrev pub pair : ℕ → ℕ → Pair
pair p q = record { p = p; q = q }

abbrev pub pairs_of : List ℕ → List Pair
pairs_of (p ∷ q ∷ r ∷ []) = pair p q ∷ pair q r ∷ pair r p ∷ []
pairs_of _ = []

pub record Valid (names : List (List ℕ)) (a : Pair) : Type 0 where
  pub p : a.p < length names
  pub q : a.q < length names
  pub apart : a.p ≢ a.q
  pub few : length names ≤ 2 ^ 31

abbrev pub side_at : List (List ℕ) → Pair → Side
side_at names a = side (edge_at names a.p) (edge_at names a.q)

abbrev pub key_at : Pair → ℕ
key_at a = key_of a.p a.q

-- the lesser rank, and the greater one
abbrev pub first : Pair → Pair
first a = if nat_lt a.p a.q then a else pair a.q a.p

pub first_valid : (names : List (List ℕ)) (a : Pair) → Valid names a → Valid names (first a)
first_valid names a v = cases (nat_lt a.p a.q)
  where
    cases : (t : Bool) → Valid names (if t then a else pair a.q a.p)
    cases true = v
    cases false = record { p = v.q; q = v.p; apart = λ e. v.apart (sym e); few = v.few }

pub undirected_at : (names : List (List ℕ)) (a : Pair) → Sorted names → Valid names a → undirected (side_at names a) ≡ side_at names (first a)
undirected_at names a asc v = ap (λ t. if t then side_at names a else turned (side_at names a)) (before_by_rank names a.p a.q asc v.p v.q v.apart) ∙ choose (nat_lt a.p a.q)
  where
    choose : (t : Bool) → (if t then side_at names a else turned (side_at names a)) ≡ side_at names (if t then a else pair a.q a.p)
    choose true = refl
    choose false = refl

pub half_at : (names : List (List ℕ)) (a : Pair) → Valid names a → half (key_at a) ≡ (first a).p * 2 ^ 31 + (first a).q
half_at names a v = cases (nat_lt a.p a.q)
  where
    cases : (t : Bool) → half (if t then 2 * (a.p * 2 ^ 31 + a.q) else 2 * (a.q * 2 ^ 31 + a.p) + 1) ≡ (if t then a else pair a.q a.p).p * 2 ^ 31 + (if t then a else pair a.q a.p).q
    cases true = omega arith
    cases false = omega arith

-- two sides are one by names just where they are one by numbers
pub same_by_code : (names : List (List ℕ)) (a b : Pair) → Sorted names → Valid names a → Valid names b
    → same_side (side_at names a) (side_at names b) ≡ nat_eq (a.p * 2 ^ 31 + a.q) (b.p * 2 ^ 31 + b.q)
same_by_code names a b asc va vb =
    same_from_decides _ _ (same_side-decides (side_at names a) (side_at names b))
    (Decides-like (nat_eq (a.p * 2 ^ 31 + a.q) (b.p * 2 ^ 31 + b.q)) to from (Decides-eqb _ _))
  where
    to : a.p * 2 ^ 31 + a.q ≡ b.p * 2 ^ 31 + b.q → side_at names a ≡ side_at names b
    to e =
        let p : a.p ≡ b.p = omega (arith, e, va.q, vb.q, va.few) in
        let q : a.q ≡ b.q = omega (arith, e, va.q, vb.q, va.few) in
        λ t. side (edge_at names (p t)) (edge_at names (q t))

    from : side_at names a ≡ side_at names b → a.p * 2 ^ 31 + a.q ≡ b.p * 2 ^ 31 + b.q
    from e =
        let p = rank_tells names a.p b.p asc va.p vb.p (ap (λ (s : Side). s.tail) e) in
        let q = rank_tells names a.q b.q asc va.q vb.q (ap (λ (s : Side). s.head) e) in
        λ t. p t * 2 ^ 31 + q t

-- ---- lists

abbrev pub all_pairs : List (List ℕ) → List Pair
all_pairs triangles = flat_map pairs_of triangles

pub keys_are : (count : ℕ) (triangles : List (List ℕ)) → Each (IsTriangle count) triangles → keys_in triangles ≡ map key_at (all_pairs triangles)
keys_are count [] each = refl
keys_are count ((p ∷ q ∷ r ∷ []) ∷ ts) each = ap (λ rest. key_of p q ∷ key_of q r ∷ key_of r p ∷ rest) (keys_are count ts each.1)
keys_are count ([] ∷ ts) each = absurd each.0
keys_are count ((p ∷ []) ∷ ts) each = absurd each.0
keys_are count ((p ∷ q ∷ []) ∷ ts) each = absurd each.0
keys_are count ((p ∷ q ∷ r ∷ s ∷ rest) ∷ ts) each = absurd each.0

pub sides_are : (names : List (List ℕ)) (count : ℕ) (triangles : List (List ℕ)) → Each (IsTriangle count) triangles
    → flat_map sides_of (edges_by names triangles) ≡ map (side_at names) (all_pairs triangles)
sides_are names count [] each = refl
sides_are names count ((p ∷ q ∷ r ∷ []) ∷ ts) each =
    ap (λ rest. side_at names (pair p q) ∷ side_at names (pair q r) ∷ side_at names (pair r p) ∷ rest) (sides_are names count ts each.1)
sides_are names count ([] ∷ ts) each = absurd each.0
sides_are names count ((p ∷ []) ∷ ts) each = absurd each.0
sides_are names count ((p ∷ q ∷ []) ∷ ts) each = absurd each.0
sides_are names count ((p ∷ q ∷ r ∷ s ∷ rest) ∷ ts) each = absurd each.0

pub valid_pairs : (names : List (List ℕ)) (triangles : List (List ℕ)) → length names ≤ 2 ^ 31 → Each (IsTriangle (length names)) triangles → Each (Valid names) (all_pairs triangles)
valid_pairs names [] few each = tt
valid_pairs names ((p ∷ q ∷ r ∷ []) ∷ ts) few each =
    let t = each.0 in (
      record { p = t.0; q = t.1; apart = t.3; few = few },
      (
        record { p = t.1; q = t.2; apart = t.4; few = few },
        (record { p = t.2; q = t.0; apart = t.5; few = few }, valid_pairs names ts few each.1),
      ),
    )
valid_pairs names ([] ∷ ts) few each = absurd each.0
valid_pairs names ((p ∷ []) ∷ ts) few each = absurd each.0
valid_pairs names ((p ∷ q ∷ []) ∷ ts) few each = absurd each.0
valid_pairs names ((p ∷ q ∷ r ∷ s ∷ rest) ∷ ts) few each = absurd each.0

-- each once, by either view
module _ (f : Pair → Side) (g : Pair → ℕ) (V : Pair → Type 0) (same : (a b : Pair) → V a → V b → same_side (f a) (f b) ≡ nat_eq (g a) (g b)) where
  member_alike : (x : Pair) (xs : List Pair) → V x → Each V xs → is_member same_side (map f xs) (f x) ≡ is_member nat_eq (map g xs) (g x)
  member_alike x [] v each = refl
  member_alike x (y ∷ ys) v each =
      let rest = member_alike x ys v each.1 in
      let first = same x y v each.0 in
      λ t. first t || rest t

  pub sum_alike : (P : Side → ℕ) (Q : ℕ → ℕ) → ((a : Pair) → V a → P (f a) ≡ Q (g a)) → (xs : List Pair) → Each V xs
      → sum_by P (unique_keys same_side (map f xs)) ≡ sum_by Q (uniq (map g xs))
  sum_alike P Q alike [] each = refl
  sum_alike P Q alike (x ∷ xs) each = cases (is_member nat_eq (map g xs) (g x)) (member_alike x xs each.0 each.1) (sum_alike P Q alike xs each.1)
    where
      cases : (t : Bool) → is_member same_side (map f xs) (f x) ≡ t → sum_by P (unique_keys same_side (map f xs)) ≡ sum_by Q (uniq (map g xs))
          → sum_by P (cond (is_member same_side (map f xs) (f x)) (unique_keys same_side (map f xs)) (f x ∷ unique_keys same_side (map f xs)))
          ≡ sum_by Q (cond t (uniq (map g xs)) (g x ∷ uniq (map g xs)))
      cases true is rest = ap (λ t. sum_by P (cond t (unique_keys same_side (map f xs)) (f x ∷ unique_keys same_side (map f xs)))) is ∙ rest
      cases false is rest =
          ap (λ t. sum_by P (cond t (unique_keys same_side (map f xs)) (f x ∷ unique_keys same_side (map f xs)))) is
          ∙ omega (arith, sum_by-cons P (f x) (unique_keys same_side (map f xs)), sum_by-cons Q (g x) (uniq (map g xs)), rest, alike x each.0)

-- ---- how often a side is run through

-- a triangle with different names runs through a side at most once
at_most_once : (s : Side) (p q r : Edge) → p ≢ q → q ≢ r → r ≢ p → count_by (same_side s) (sides_of (p ∷ q ∷ r ∷ [])) ≤ 1
at_most_once s p q r pq qr rp = cases (same_side s (side p q)) (same_side s (side q r)) (same_side s (side r p)) refl refl refl
  where
    tail : (m n : Edge) → same_side s (side m n) ≡ true → s.tail ≡ m
    tail m n h = ap (λ (u : Side). u.tail) ((same_side-decides s (side m n)).0 h)

    value : count_by (same_side s) (sides_of (p ∷ q ∷ r ∷ [])) ≡ cond (same_side s (side p q)) 1 0 + cond (same_side s (side q r)) 1 0 + cond (same_side s (side r p)) 1 0
    value = omega arith

    cases : (x y z : Bool) → same_side s (side p q) ≡ x → same_side s (side q r) ≡ y → same_side s (side r p) ≡ z → count_by (same_side s) (sides_of (p ∷ q ∷ r ∷ [])) ≤ 1
    cases true true z hx hy hz = absurd (pq (sym (tail p q hx) ∙ tail q r hy))
    cases true false true hx hy hz = absurd (rp (sym (tail r p hz) ∙ tail p q hx))
    cases false true true hx hy hz = absurd (qr (sym (tail q r hy) ∙ tail r p hz))
    cases true false false hx hy hz = omega (arith, value, ap (λ t. cond {A = ℕ} t 1 0) hx, ap (λ t. cond {A = ℕ} t 1 0) hy, ap (λ t. cond {A = ℕ} t 1 0) hz)
    cases false true false hx hy hz = omega (arith, value, ap (λ t. cond {A = ℕ} t 1 0) hx, ap (λ t. cond {A = ℕ} t 1 0) hy, ap (λ t. cond {A = ℕ} t 1 0) hz)
    cases false false true hx hy hz = omega (arith, value, ap (λ t. cond {A = ℕ} t 1 0) hx, ap (λ t. cond {A = ℕ} t 1 0) hy, ap (λ t. cond {A = ℕ} t 1 0) hz)
    cases false false false hx hy hz = omega (arith, value, ap (λ t. cond {A = ℕ} t 1 0) hx, ap (λ t. cond {A = ℕ} t 1 0) hy, ap (λ t. cond {A = ℕ} t 1 0) hz)

run_through-count : (names : List (List ℕ)) (triangles : List (List ℕ)) (s : Side) → Sorted names → Each (IsTriangle (length names)) triangles
    → run_through (edges_by names triangles) s ≡ sum_by (λ cell. count_by (same_side s) (sides_of cell)) (edges_by names triangles)
run_through-count names [] s asc each = refl
run_through-count names ((p ∷ q ∷ r ∷ []) ∷ ts) s asc each =
    let t = each.0 in
    let cell = edge_at names p ∷ edge_at names q ∷ edge_at names r ∷ [] in
    let here = any_once (same_side s) (sides_of cell) (at_most_once s (edge_at names p) (edge_at names q) (edge_at names r)
    (λ e. t.3 (rank_tells names p q asc t.0 t.1 e)) (λ e. t.4 (rank_tells names q r asc t.1 t.2 e)) (λ e. t.5 (rank_tells names r p asc t.2 t.0 e))) in
    omega (
      arith,
      here,
      run_through-count names ts s asc each.1,
      sum_by-cons (λ c. cond {A = ℕ} (list_any (same_side s) (sides_of c)) 1 0) cell (edges_by names ts),
      sum_by-cons (λ c. count_by (same_side s) (sides_of c)) cell (edges_by names ts),
    )
run_through-count names ([] ∷ ts) s asc each = absurd each.0
run_through-count names ((p ∷ []) ∷ ts) s asc each = absurd each.0
run_through-count names ((p ∷ q ∷ []) ∷ ts) s asc each = absurd each.0
run_through-count names ((p ∷ q ∷ r ∷ t ∷ rest) ∷ ts) s asc each = absurd each.0

-- a side of ranks is run through as often as its number stands among the pairs
pub runs_by_code : (names : List (List ℕ)) (triangles : List (List ℕ)) (c : Pair) → Sorted names → length names ≤ 2 ^ 31 → Each (IsTriangle (length names)) triangles → Valid names c
    → run_through (edges_by names triangles) (side_at names c) ≡ count_by (λ (b : Pair). nat_eq (c.p * 2 ^ 31 + c.q) (b.p * 2 ^ 31 + b.q)) (all_pairs triangles)
runs_by_code names triangles c asc few each v =
    let s = side_at names c in
    let pairs = all_pairs triangles in
    run_through-count names triangles s asc each
    ∙ sym (count_by-flat_map (same_side s) sides_of (edges_by names triangles))
    ∙ ap (count_by (same_side s)) (sides_are names (length names) triangles each)
    ∙ sum_by-map (λ t. cond {A = ℕ} (same_side s t) 1 0) (side_at names) pairs
    ∙ sum_by-same (λ b. cond {A = ℕ} (same_side s (side_at names b)) 1 0) (λ (b : Pair). cond {A = ℕ} (nat_eq (c.p * 2 ^ 31 + c.q) (b.p * 2 ^ 31 + b.q)) 1 0) pairs
    (λ k d less. ap (λ t. cond {A = ℕ} t 1 0) (same_by_code names c (get_or pairs k d) asc v (Each_at (Valid names) pairs (valid_pairs names triangles few each) k d less)))
