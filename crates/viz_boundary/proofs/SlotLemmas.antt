-- Keys that go into free slots, or to the rest: none is lost.
use Rattle.std.proofs.Common.{◌≡◌, ℕ, zero, suc, ◌+◌, ◌*◌, ◌<◌, ◌≤◌, Bool, true, false, cond, not, List, [], ◌∷◌, ◌++◌, length, get_or, set, take, replicate, refl, sym, ap, subst, ◌∙◌, eq-eqb, append_assoc, append-nil, arith}
use Rattle.std.specs.List.{All, filter, flat_map}
use Rattle.std.specs.List.Sorted.{IsPermutation}
use Rattle.std.proofs.lemmas.List.{length-append}
use Rattle.std.proofs.lemmas.List.Elements.{All-head, All-tail}
use Rattle.std.proofs.lemmas.List.Sorted.{IsPermutation-append_left, IsPermutation-cons, IsPermutation-middle, IsPermutation-refl, IsPermutation-sym, IsPermutation-to_front, IsPermutation-trans}
use Rattle.viz_mesh_meaning.specs.Facets.{facets_of}
use Rattle.viz_boundary.specs.declared.slots.TheConstants.{FREE}
use Rattle.viz_boundary.specs.Steps.Keys.{keyed_from}
use Rattle.viz_boundary.specs.Steps.Slots.{is_taken}
use Rattle.viz_boundary.proofs.KeyedLemmas.{keyed-append}
use Rattle.viz_boundary.proofs.LoopLemmas.{facets-most, flat-more}

free-out : (k : ℕ) → k ≡ FREE → is_taken k ≡ false
free-out k e = ap not (eq-eqb k FREE e)

-- free slots hold no key
pub none-held : (n : ℕ) → filter is_taken (replicate n FREE) ≡ []
none-held zero = refl
none-held (suc n) = ap (λ b. cond b (FREE ∷ filter is_taken (replicate n FREE)) (filter is_taken (replicate n FREE))) (free-out FREE refl) ∙ none-held n

-- a key in a free slot is one more
slot-more : (xs : List ℕ) (i k : ℕ) → i < length xs → get_or xs i 0 ≡ FREE → is_taken k ≡ true → IsPermutation (k ∷ filter is_taken xs) (filter is_taken (set xs i k))
slot-more [] i k l e t = absurd (omega arith)
slot-more (x ∷ xs) zero k l e t =
    let left : filter is_taken (x ∷ xs) ≡ filter is_taken xs = ap (λ b. cond b (x ∷ filter is_taken xs) (filter is_taken xs)) (free-out x e) in
    let right : filter is_taken (k ∷ xs) ≡ k ∷ filter is_taken xs = ap (λ b. cond b (k ∷ filter is_taken xs) (filter is_taken xs)) t in
    subst (λ (ys : List ℕ). IsPermutation (k ∷ ys) (filter is_taken (k ∷ xs))) (sym left)
    (subst (λ (ys : List ℕ). IsPermutation (k ∷ filter is_taken xs) ys) (sym right) (IsPermutation-refl (k ∷ filter is_taken xs)))
slot-more (x ∷ xs) (suc i) k l e t = behind (is_taken x) (slot-more xs i k (omega arith) e t)
  where
    behind : (b : Bool) → IsPermutation (k ∷ filter is_taken xs) (filter is_taken (set xs i k))
        → IsPermutation (k ∷ cond b (x ∷ filter is_taken xs) (filter is_taken xs)) (cond b (x ∷ filter is_taken (set xs i k)) (filter is_taken (set xs i k)))
    behind true h =
        let f = filter is_taken xs in
        IsPermutation-trans (k ∷ x ∷ f) (x ∷ k ∷ f) (x ∷ filter is_taken (set xs i k)) (IsPermutation-sym (x ∷ k ∷ f) (k ∷ x ∷ f) (IsPermutation-middle (x ∷ []) k f)) (IsPermutation-cons x (k ∷ f) (filter is_taken (set xs i k)) h)
    behind false h = h

-- a key that found its slot free
pub put-free : (keys rest : List ℕ) (i k : ℕ) → i < length keys → get_or keys i 0 ≡ FREE → is_taken k ≡ true → IsPermutation ((filter is_taken keys ++ rest) ++ k ∷ []) (filter is_taken (set keys i k) ++ rest)
put-free keys rest i k l e t =
    let f = filter is_taken keys in
    IsPermutation-trans ((f ++ rest) ++ k ∷ []) (k ∷ (f ++ rest)) (filter is_taken (set keys i k) ++ rest) (IsPermutation-to_front (f ++ rest) k) (IsPermutation-append_left rest (k ∷ f) (filter is_taken (set keys i k)) (slot-more keys i k l e t))

-- a key that went to the rest
pub put-rest : (keys rest : List ℕ) (k : ℕ) → IsPermutation ((filter is_taken keys ++ rest) ++ k ∷ []) (filter is_taken keys ++ (rest ++ k ∷ []))
put-rest keys rest k =
    subst (λ (ys : List ℕ). IsPermutation ((filter is_taken keys ++ rest) ++ k ∷ []) ys) (append_assoc (filter is_taken keys) rest (k ∷ [])) (IsPermutation-refl ((filter is_taken keys ++ rest) ++ k ∷ []))

-- the slots that hold a key, moved, and behind them the rest
pub all-keys : (keys rest left moved all : List ℕ) → left ≡ filter is_taken keys → IsPermutation left moved → all ≡ moved ++ rest → IsPermutation (filter is_taken keys ++ rest) all
all-keys keys rest left moved all e p a =
    subst (λ (ys : List ℕ). IsPermutation (ys ++ rest) all) e
    (subst (λ (ys : List ℕ). IsPermutation (left ++ rest) ys) (sym a) (IsPermutation-append_left rest left moved p))

-- some keys put, and then some more
pub joined : (h0 h1 h2 xs ys : List ℕ) → IsPermutation (h0 ++ xs) h1 → IsPermutation (h1 ++ ys) h2 → IsPermutation (h0 ++ (xs ++ ys)) h2
joined h0 h1 h2 xs ys p q =
    subst (λ (zs : List ℕ). IsPermutation zs h2) (append_assoc h0 xs ys) (IsPermutation-trans ((h0 ++ xs) ++ ys) (h1 ++ ys) h2 (IsPermutation-append_left ys (h0 ++ xs) h1 p) q)

pub none-yet : (h : List ℕ) → IsPermutation (h ++ []) h
none-yet h = subst (λ (ys : List ℕ). IsPermutation ys h) (sym (append-nil h)) (IsPermutation-refl h)

-- one more key, by what it is
pub put-more : (h0 h1 h2 xs : List ℕ) (x y : ℕ) → IsPermutation (h0 ++ xs) h1 → IsPermutation (h1 ++ x ∷ []) h2 → x ≡ y → IsPermutation (h0 ++ (xs ++ y ∷ [])) h2
put-more h0 h1 h2 xs x y p q e = joined h0 h1 h2 xs (y ∷ []) p (subst (λ k. IsPermutation (h1 ++ k ∷ []) h2) e q)

-- so many cells have at most four times as many facets
pub flat-few : (cells : List (List ℕ)) → All (λ c. length c ≤ 4) cells → length (flat_map facets_of cells) ≤ 4 * length cells
flat-few [] h = omega arith
flat-few (c ∷ cs) h =
    omega (arith, length-append (facets_of c) (flat_map facets_of cs), facets-most c (All-head (λ d. length d ≤ 4) c cs h), flat-few cs (All-tail (λ d. length d ≤ 4) c cs h))

-- the keys of the facets of the first so many cells are held
pub record AreHeldUpTo (cells : List (List ℕ)) (i at : ℕ) (keys : List ℕ) : Type 0 where
  pub place : at ≡ length (flat_map facets_of (take i cells))
  pub few : at ≤ 4 * i
  pub held : IsPermutation (keyed_from 0 (flat_map facets_of (take i cells))) keys

pub held-more : (cells : List (List ℕ)) (i at : ℕ) (cell : List ℕ) (old new : List ℕ) → i < length cells → cell ≡ get_or cells i [] → length cell ≤ 4
    → at ≡ length (flat_map facets_of (take i cells)) → at ≤ 4 * i → IsPermutation (keyed_from 0 (flat_map facets_of (take i cells))) old
    → IsPermutation (old ++ keyed_from at (facets_of cell)) new → AreHeldUpTo cells (i + 1) (at + length (facets_of cell)) new
held-more cells i at cell old new l is most place few held more =
    let all = flat_map facets_of (take i cells) in
    let flat : flat_map facets_of (take (i + 1) cells) ≡ all ++ facets_of cell = flat-more facets_of cells i [] l ∙ ap (λ c. all ++ facets_of c) (sym is) in
    let keys : keyed_from 0 (flat_map facets_of (take (i + 1) cells)) ≡ keyed_from 0 all ++ keyed_from at (facets_of cell) =
    ap (keyed_from 0) flat ∙ keyed-append 0 all (facets_of cell) ∙ ap (λ n. keyed_from 0 all ++ keyed_from n (facets_of cell)) {x = 0 + length all} {y = at} (omega (arith, place)) in
    record {
      place = omega (arith, place, ap length flat, length-append all (facets_of cell));
      few = omega (arith, facets-most cell most, few);
      held =
          subst (λ (ks : List ℕ). IsPermutation ks new) (sym keys)
          (IsPermutation-trans (keyed_from 0 all ++ keyed_from at (facets_of cell)) (old ++ keyed_from at (facets_of cell)) new (IsPermutation-append_left (keyed_from at (facets_of cell)) (keyed_from 0 all) old held) more);
    }
