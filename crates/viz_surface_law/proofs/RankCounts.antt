-- Counts of sides by the keys of their ranks are those by edges.
use Rattle.std.proofs.Common.{◌≡◌, ◌≢◌, ℕ, ◌+◌, ◌*◌, ◌/◌, ◌%◌, ◌^◌, ◌<◌, ◌≤◌, ◌==◌, Bool, true, cond, ◌&&◌, if◌then◌else◌, List, [], ◌∷◌, map, length, get_or, nat_eq, nat_lt, refl, sym, ap, subst, ◌∙◌, arith}
use Rattle.std.specs.Prelude.{count_by, sum_by}
use Rattle.std.specs.List.{All, flat_map}
use Rattle.std.specs.Set.{unique_keys}
use Rattle.std.proofs.lemmas.Bool.Decides.{nat_tests}
use Rattle.viz_surface_law.specs.Sides.{Side, side, turned, sides_of, same_side}
use Rattle.viz_surface_law.specs.Audit.{undirected, count_border, sides_in, count_two, count_lone, count_sides as sides_counted}
use Rattle.viz_surface_law.specs.Steps.Keys.{half, key_of, keys_in, forth, back, passing, any_side, in_two, in_one}
use Rattle.viz_extent.specs.Extent.{Bounds}
use Rattle.viz_surface_law.specs.Closed.{on_boundary, run_through}
use Rattle.viz_surface_law.specs.Steps.Ranked.{edge_at, edges_by, IsTriangle, in_border, HasRanks}
use Rattle.viz_surface_law.proofs.Sharing.ListCounts.{sum_by-same, sum_by-map, by_test}
use Rattle.viz_surface_law.proofs.AuditLaw.{ones}
use Rattle.viz_surface_law.proofs.PassLaw.{uniq, passes}
use Rattle.viz_surface_law.proofs.Sharing.FacetTable.{Each, Each_at}
use Rattle.viz_surface_law.proofs.Ranks.{Sorted, Pair, pair, Valid, side_at, key_at, first, first_valid, undirected_at, half_at, same_by_code, all_pairs, keys_are, sides_are, valid_pairs, sum_alike, runs_by_code}

-- ---- keys

forth_one : (p q m n : ℕ) → p < 2 ^ 31 → q < 2 ^ 31 → m < 2 ^ 31 → n < 2 ^ 31 → p ≢ q → m < n → (key_of p q == 2 * (m * 2 ^ 31 + n)) ≡ nat_eq (m * 2 ^ 31 + n) (p * 2 ^ 31 + q)
forth_one p q m n hp hq hm hn apart less = grind (arith, nat_tests, apart)

back_one : (p q m n : ℕ) → p < 2 ^ 31 → q < 2 ^ 31 → m < 2 ^ 31 → n < 2 ^ 31 → p ≢ q → m < n → (key_of p q == 2 * (m * 2 ^ 31 + n) + 1) ≡ nat_eq (n * 2 ^ 31 + m) (p * 2 ^ 31 + q)
back_one p q m n hp hq hm hn apart less = grind (arith, nat_tests, apart)

map-twice : {X Y Z : Type 0} (f : Y → Z) (g : X → Y) (xs : List X) → map f (map g xs) ≡ map (λ x. f (g x)) xs
map-twice f g [] = refl
map-twice f g (x ∷ xs) = ap (λ rest. f (g x) ∷ rest) (map-twice f g xs)

-- ---- the counts by names are those by keys

module _ (names : List (List ℕ)) (triangles : List (List ℕ)) (asc : Sorted names) (few : length names ≤ 2 ^ 31) (each : Each (IsTriangle (length names)) triangles) where
  forth_runs : (c : Pair) → Valid names c → c.p < c.q → run_through (edges_by names triangles) (side_at names c) ≡ forth (keys_in triangles) (c.p * 2 ^ 31 + c.q)
  forth_runs c v less =
      let pairs = all_pairs triangles in
      let u = c.p * 2 ^ 31 + c.q in
      let valid = Each_at (Valid names) pairs (valid_pairs names triangles few each) in
      runs_by_code names triangles c asc few each v
      ∙ sum_by-same (λ (b : Pair). cond {A = ℕ} (nat_eq u (b.p * 2 ^ 31 + b.q)) 1 0) (λ (b : Pair). cond {A = ℕ} (key_at b == 2 * u) 1 0) pairs
      (λ k d less2.
      let b = get_or pairs k d in
      let w = valid k d less2 in
      ap (λ t. cond {A = ℕ} t 1 0) (sym (forth_one b.p b.q c.p c.q (omega (arith, w.p, few)) (omega (arith, w.q, few)) (omega (arith, v.p, few)) (omega (arith, v.q, few)) w.apart less)))
      ∙ sym (sum_by-map (λ key. cond {A = ℕ} (key == 2 * u) 1 0) key_at pairs)
      ∙ ap (λ keys. forth keys u) (sym (keys_are (length names) triangles each))

  back_runs : (c : Pair) → Valid names c → c.p < c.q → run_through (edges_by names triangles) (turned (side_at names c)) ≡ back (keys_in triangles) (c.p * 2 ^ 31 + c.q)
  back_runs c v less =
      let pairs = all_pairs triangles in
      let u = c.p * 2 ^ 31 + c.q in
      let valid = Each_at (Valid names) pairs (valid_pairs names triangles few each) in
      let flipped : Valid names (pair c.q c.p) = record { p = v.q; q = v.p; apart = λ e. v.apart (sym e); few = few } in
      runs_by_code names triangles (pair c.q c.p) asc few each flipped
      ∙ sum_by-same (λ (b : Pair). cond {A = ℕ} (nat_eq (c.q * 2 ^ 31 + c.p) (b.p * 2 ^ 31 + b.q)) 1 0) (λ (b : Pair). cond {A = ℕ} (key_at b == 2 * u + 1) 1 0) pairs
      (λ k d less2.
      let b = get_or pairs k d in
      let w = valid k d less2 in
      ap (λ t. cond {A = ℕ} t 1 0) (sym (back_one b.p b.q c.p c.q (omega (arith, w.p, few)) (omega (arith, w.q, few)) (omega (arith, v.p, few)) (omega (arith, v.q, few)) w.apart less)))
      ∙ sym (sum_by-map (λ key. cond {A = ℕ} (key == 2 * u + 1) 1 0) key_at pairs)
      ∙ ap (λ keys. back keys u) (sym (keys_are (length names) triangles each))

  first_less : (a : Pair) → Valid names a → (first a).p < (first a).q
  first_less a v = by_test (nat_lt a.p a.q)
      (λ so. subst (λ t. (if t then a else pair a.q a.p).p < (if t then a else pair a.q a.p).q) (sym so) (grind (arith, nat_tests, so)))
      (λ other. subst (λ t. (if t then a else pair a.q a.p).p < (if t then a else pair a.q a.p).q) (sym other) (grind (arith, nat_tests, other, v.apart)))

  -- a test of a side by its names and of its number are the same
  abbrev Alike : (ℕ → ℕ → ℕ → Bool) → (Side → ℕ → ℕ → Bool) → Type 0
  Alike test by = (c : Pair) → Valid names c → (m n : ℕ) → test (c.p * 2 ^ 31 + c.q) m n ≡ by (side_at names c) m n

  test_alike : (test : ℕ → ℕ → ℕ → Bool) (by : Side → ℕ → ℕ → Bool) → Alike test by → (a : Pair) → Valid names a
      → cond {A = ℕ} (by (undirected (side_at names a)) (run_through (edges_by names triangles) (undirected (side_at names a))) (run_through (edges_by names triangles) (turned (undirected (side_at names a))))) 1 0
      ≡ passes test (keys_in triangles) (half (key_at a))
  test_alike test by same a v =
      let c = first a in
      let vc = first_valid names a v in
      let less = first_less a v in
      let cells = edges_by names triangles in
      let u = c.p * 2 ^ 31 + c.q in
      let m = forth_runs c vc less in
      let n = back_runs c vc less in
      ap (λ s. cond {A = ℕ} (by s (run_through cells s) (run_through cells (turned s))) 1 0) (undirected_at names a asc v)
      ∙ (λ t. cond {A = ℕ} (by (side_at names c) (m t) (n t)) 1 0)
      ∙ ap (λ t. cond {A = ℕ} t 1 0) (sym (same c vc (forth (keys_in triangles) u) (back (keys_in triangles) u)))
      ∙ ap (passes test (keys_in triangles)) (sym (half_at names a v))

  same_code : (a b : Pair) → Valid names a → Valid names b → same_side (undirected (side_at names a)) (undirected (side_at names b)) ≡ nat_eq (half (key_at a)) (half (key_at b))
  same_code a b va vb =
      let ea = undirected_at names a asc va in
      let eb = undirected_at names b asc vb in
      let ha = half_at names a va in
      let hb = half_at names b vb in
      (λ t. same_side (ea t) (eb t)) ∙ same_by_code names (first a) (first b) asc (first_valid names a va) (first_valid names b vb) ∙ sym (λ t. nat_eq (ha t) (hb t))

  counted : (test : ℕ → ℕ → ℕ → Bool) (by : Side → ℕ → ℕ → Bool) → Alike test by
      → count_by (λ s. by s (run_through (edges_by names triangles) s) (run_through (edges_by names triangles) (turned s))) (sides_in (edges_by names triangles)) ≡ passing test (keys_in triangles)
  counted test by same =
      let cells = edges_by names triangles in
      let pairs = all_pairs triangles in
      let P : Side → ℕ = λ s. cond {A = ℕ} (by s (run_through cells s) (run_through cells (turned s))) 1 0 in
      let sides : map undirected (flat_map sides_of cells) ≡ map (λ a. undirected (side_at names a)) pairs =
      ap (map undirected) (sides_are names (length names) triangles each) ∙ map-twice undirected (side_at names) pairs in
      let halves : map half (keys_in triangles) ≡ map (λ a. half (key_at a)) pairs =
      ap (map half) (keys_are (length names) triangles each) ∙ map-twice half key_at pairs in
      ap (λ xs. sum_by P (unique_keys same_side xs)) sides
      ∙ sum_alike (λ a. undirected (side_at names a)) (λ a. half (key_at a)) (Valid names) same_code P (passes test (keys_in triangles)) (test_alike test by same) pairs (valid_pairs names triangles few each)
      ∙ ap (λ xs. sum_by (passes test (keys_in triangles)) (uniq xs)) (sym halves)

  border_alike : (b : Bounds) → Alike (in_border b names) (λ s m n. (m + n == 1) && on_boundary b s)
  border_alike b c v m n =
      let p : (c.p * 2 ^ 31 + c.q) / 2 ^ 31 ≡ c.p = omega (arith, v.q, few) in
      let q : (c.p * 2 ^ 31 + c.q) % 2 ^ 31 ≡ c.q = omega (arith, v.q, few) in
      λ t. (m + n == 1) && on_boundary b (side (edge_at names (p t)) (edge_at names (q t)))

  pub counts_by_names :
      (sides_counted (edges_by names triangles) ≡ passing any_side (keys_in triangles))
      × (count_two (edges_by names triangles) ≡ passing in_two (keys_in triangles))
      × (count_lone (edges_by names triangles) ≡ passing in_one (keys_in triangles))
      × ((b : Bounds) → count_border b (edges_by names triangles) ≡ passing (in_border b names) (keys_in triangles))
  counts_by_names = (
    sym (ones (sides_in (edges_by names triangles))) ∙ counted any_side (λ s m n. true) (λ c v m n. refl),
    counted in_two (λ s m n. (m == 1) && (n == 1)) (λ c v m n. refl),
    counted in_one (λ s m n. m + n == 1) (λ c v m n. refl),
    λ b. counted (in_border b names) (λ s m n. (m + n == 1) && on_boundary b s) (border_alike b),
  )

-- ---- the ranks of keys

key_ranks : (names : List (List ℕ)) (a : Pair) → Valid names a → HasRanks (length names) (half (key_at a))
key_ranks names a v =
    let c = first a in
    let w = first_valid names a v in
    let h = half_at names a v in
    subst (HasRanks (length names)) (sym h) (omega (arith, w.p, w.q, w.few), omega (arith, w.p, w.q, w.few))

pub keys_have_ranks : (names : List (List ℕ)) (triangles : List (List ℕ)) → length names ≤ 2 ^ 31 → Each (IsTriangle (length names)) triangles
    → All (λ key. HasRanks (length names) (half key)) (keys_in triangles)
keys_have_ranks names triangles few each =
    subst (All (λ key. HasRanks (length names) (half key))) (sym (keys_are (length names) triangles each))
    (Each_at (λ key. HasRanks (length names) (half key)) (map key_at (all_pairs triangles)) (over (all_pairs triangles) (valid_pairs names triangles few each)))
  where
    over : (xs : List Pair) → Each (Valid names) xs → Each (λ key. HasRanks (length names) (half key)) (map key_at xs)
    over [] all = tt
    over (x ∷ xs) all = (key_ranks names x all.0, over xs all.1)
