-- Keys in order: those with one place stand together, by their indices.
use Rattle.std.proofs.Common.{◌≡◌, ◌≢◌, ℕ, zero, suc, ◌-◌, ◌<◌, ◌≤◌, Bool, true, false, cond, List, [], ◌∷◌, ◌++◌, length, Ordering, Less, Equal, Greater, is_lt, is_eq, ℤ, pos, refl, sym, ap, ap₂, subst, ◌∙◌, true≢false, ⊎_elim, arith}
use Rattle.std.specs.List.Sorted.{IsSorted}
use Rattle.std.specs.Cmp.Lexicographic.{slice_cmp}
use Rattle.std.specs.Ordering.{int_cmp, ordering_reverse, ordering_then}
use Rattle.std.proofs.lemmas.Bool.{cases_lt}
use Rattle.std.proofs.lemmas.Cmp.{tied_itself}
use Rattle.std.proofs.lemmas.List.Sorted.{ranks_by, sorted_far}
use Rattle.viz_mesh_meaning.proofs.MergeLemmas.{exact-places, places-same, places_total, same-places}
use Rattle.viz_merge.specs.Steps.Leads.{has_same_place, index_in, key_at, lead_in, place_in}

pub other-places : (p q : List ℤ) → p ≢ q → is_eq (slice_cmp int_cmp p q) ≡ false
other-places p q n = is_false (is_eq (slice_cmp int_cmp p q)) (λ h. n (same-places p q h))
  where
    is_false : (b : Bool) → (b ≡ true → ⊥) → b ≡ false
    is_false true h = absurd (h refl)
    is_false false h = refl

-- a key is a place and an index
pub record IsKey (key : List ℤ) : Type 0 where
  pub size : length (place_in key) ≡ 4
  pub parts : key ≡ place_in key ++ pos (index_in key) ∷ []

then-more : (o p q : Ordering) → ordering_then o (ordering_then p q) ≡ ordering_then (ordering_then o p) q
then-more Less p q = refl
then-more Equal p q = refl
then-more Greater p q = refl

then-last : (o : Ordering) → ordering_then o Equal ≡ o
then-last Less = refl
then-last Equal = refl
then-last Greater = refl

compare-parts : (p q : List ℤ) (i j : ℤ) → length p ≡ length q → slice_cmp int_cmp (p ++ i ∷ []) (q ++ j ∷ []) ≡ ordering_then (slice_cmp int_cmp p q) (int_cmp i j)
compare-parts [] [] i j l = then-last (int_cmp i j)
compare-parts [] (y ∷ ys) i j l = absurd (omega (arith, l))
compare-parts (x ∷ xs) [] i j l = absurd (omega (arith, l))
compare-parts (x ∷ xs) (y ∷ ys) i j l =
    ap (ordering_then (int_cmp x y)) (compare-parts xs ys i j (omega (arith, l))) ∙ then-more (int_cmp x y) (slice_cmp int_cmp xs ys) (int_cmp i j)

compare-keys : (a b : List ℤ) → IsKey a → IsKey b → slice_cmp int_cmp a b ≡ ordering_then (slice_cmp int_cmp (place_in a) (place_in b)) (int_cmp (pos (index_in a)) (pos (index_in b)))
compare-keys a b h k =
    ap₂ (slice_cmp int_cmp) h.parts k.parts ∙ compare-parts (place_in a) (place_in b) (pos (index_in a)) (pos (index_in b)) (h.size ∙ sym k.size)

-- the second isn't less than the first
abbrev pub NotLess : List ℤ → List ℤ → Type 0
NotLess a b = is_lt (slice_cmp int_cmp b a) ≡ false

first-not_less : (o p : Ordering) → is_lt (ordering_then o p) ≡ false → is_lt o ≡ false
first-not_less Less p h = h
first-not_less Equal p h = refl
first-not_less Greater p h = refl

neither : (o : Ordering) → is_lt o ≡ false → is_lt (ordering_reverse o) ≡ false → o ≡ Equal
neither Less p q = absurd (true≢false p)
neither Equal p q = refl
neither Greater p q = absurd (true≢false q)

places-squeezed : (a m c : List ℤ) → IsKey a → IsKey m → IsKey c → NotLess a m → NotLess m c → place_in a ≡ place_in c → place_in m ≡ place_in c
places-squeezed a m c ha hm hc am mc e =
    let low : is_lt (slice_cmp int_cmp (place_in m) (place_in c)) ≡ false =
    subst (λ p. is_lt (slice_cmp int_cmp (place_in m) p) ≡ false) e (first-not_less _ _ (ap is_lt (sym (compare-keys m a hm ha)) ∙ am)) in
    let high : is_lt (slice_cmp int_cmp (place_in c) (place_in m)) ≡ false = first-not_less _ _ (ap is_lt (sym (compare-keys c m hc hm)) ∙ mc) in
    exact-places (place_in m) (place_in c) (neither (slice_cmp int_cmp (place_in m) (place_in c)) low (ap is_lt (sym (places_total.antisymm (place_in c) (place_in m))) ∙ high))

index-rises : (a b : List ℤ) → IsKey a → IsKey b → NotLess a b → place_in a ≡ place_in b → index_in a ≤ index_in b
index-rises a b ha hb ab e =
    let tied : slice_cmp int_cmp (place_in b) (place_in a) ≡ Equal = ap (slice_cmp int_cmp (place_in b)) e ∙ tied_itself places_total (place_in b) in
    let rest : is_lt (int_cmp (pos (index_in b)) (pos (index_in a))) ≡ false = ap (λ o. is_lt (ordering_then o (int_cmp (pos (index_in b)) (pos (index_in a))))) (sym tied) ∙ ap is_lt (sym (compare-keys b a hb ha)) ∙ ab in
    ⊎_elim (λ l. absurd (true≢false (sym (less l) ∙ rest))) (λ f. f) (cases_lt (index_in b) (index_in a))
  where
    less : index_in b < index_in a → is_lt (int_cmp (pos (index_in b)) (pos (index_in a))) ≡ true
    less l = grind (arith)

-- ---- a sorted list of keys

-- keys in order
pub record AreInOrder (keys : List (List ℤ)) : Type 0 where
  pub sorted : IsSorted (slice_cmp int_cmp) keys
  pub each : (k : ℕ) → k < length keys → IsKey (key_at keys k)

in-order : (keys : List (List ℤ)) → AreInOrder keys → (i j : ℕ) → i ≤ j → j < length keys → NotLess (key_at keys i) (key_at keys j)
in-order keys h i j l b = sorted_far (λ x y. is_lt (slice_cmp int_cmp x y)) (ranks_by places_total (λ x. x)) keys h.sorted i j [] l b

pub between : (keys : List (List ℤ)) → AreInOrder keys → (i m j : ℕ) → i ≤ m → m ≤ j → j < length keys → place_in (key_at keys i) ≡ place_in (key_at keys j) → place_in (key_at keys m) ≡ place_in (key_at keys j)
between keys h i m j im mj b e =
    places-squeezed (key_at keys i) (key_at keys m) (key_at keys j) (h.each i (omega arith)) (h.each m (omega arith)) (h.each j b) (in-order keys h i m im (omega arith)) (in-order keys h m j mj b) e

pub rises : (keys : List (List ℤ)) → AreInOrder keys → (i j : ℕ) → i ≤ j → j < length keys → place_in (key_at keys i) ≡ place_in (key_at keys j) → index_in (key_at keys i) ≤ index_in (key_at keys j)
rises keys h i j l b e = index-rises (key_at keys i) (key_at keys j) (h.each i (omega arith)) (h.each j b) (in-order keys h i j l b) e

-- ---- leads

-- a key with the place of another, such that none in front has that place
pub record Heads (keys : List (List ℤ)) (k lead : ℕ) : Type 0 where
  pub at : ℕ
  pub most : at ≤ k
  pub index : index_in (key_at keys at) ≡ lead
  pub same : place_in (key_at keys at) ≡ place_in (key_at keys k)
  pub first : 0 < at → place_in (key_at keys (at - 1)) ≢ place_in (key_at keys at)

pub heads : (keys : List (List ℤ)) (k : ℕ) → Heads keys k (lead_in keys k)
heads keys zero = record { at = 0; most = omega arith; index = refl; same = refl; first = λ l. absurd (omega arith) }
heads keys (suc k) = one (has_same_place (key_at keys k) (key_at keys (suc k))) refl (heads keys k)
  where
    one : (b : Bool) → has_same_place (key_at keys k) (key_at keys (suc k)) ≡ b → Heads keys k (lead_in keys k) → Heads keys (suc k) (cond b (lead_in keys k) (index_in (key_at keys (suc k))))
    one true e h = record {
      at = h.at;
      most = let m = h.most in omega arith;
      index = h.index;
      same = h.same ∙ same-places (place_in (key_at keys k)) (place_in (key_at keys (suc k))) e;
      first = h.first;
    }
    one false e h = record {
      at = suc k;
      most = omega arith;
      index = refl;
      same = refl;
      first = λ l s. true≢false (sym (places-same (place_in (key_at keys k)) (place_in (key_at keys (suc k))) (ap (λ n. place_in (key_at keys n)) {x = k} {y = suc k - 1} (omega arith) ∙ s)) ∙ e);
    }

-- it is at most the index of each key with that place
pub least : (keys : List (List ℤ)) (k m lead : ℕ) → AreInOrder keys → k < length keys → m < length keys → Heads keys k lead → place_in (key_at keys m) ≡ place_in (key_at keys k) → lead ≤ index_in (key_at keys m)
least keys k m lead h kl ml top e =
    let e2 : place_in (key_at keys m) ≡ place_in (key_at keys top.at) = e ∙ sym top.same in
    let low = top.most in
    ⊎_elim
    (λ (before : m < top.at).
    absurd (top.first (omega arith) (between keys h m (top.at - 1) top.at (omega arith) (omega arith) (omega arith) e2)))
    (λ (from : top.at ≤ m). subst (λ n. n ≤ index_in (key_at keys m)) top.index (rises keys h top.at m from ml (sym e2)))
    (cases_lt m top.at)
