-- Keys in order, and cells by the ranks of their keys.
use Rattle.std.proofs.Common.{◌≡◌, ℕ, ◌+◌, ◌<◌, ◌≤◌, List, [], ◌∷◌, ◌++◌, length, get_or, map, take, Ordering, Less, Equal, Greater, is_lt, is_eq, refl, sym, ap, ap₂, subst, ◌∙◌, true≢false, false, nat_eq, arith, ⊎_elim}
use Rattle.std.specs.List.{All, Contains, dedup}
use Rattle.std.specs.List.Retain.{IsFiltered, DiffersFromLast}
use Rattle.std.specs.Cmp.{unsigned_ties}
use Rattle.std.proofs.lemmas.List.Filters.{dedup_is}
use Rattle.std.proofs.lemmas.List.Kept.{IsStrictlySortedBy-dedup, Contains-dedup_nat, Contains-from_dedup}
use Rattle.std.specs.List.Sorted.{IsStrictlySortedBy, IsSorted, IsPermutation, IsPartitionPoint, IsNonDecreasingBy}
use Rattle.std.specs.Ordering.{nat_cmp, ordering_index, ordering_reverse}
use Rattle.std.proofs.lemmas.Bool.{cases_lt}
use Rattle.std.proofs.lemmas.Cmp.{tied_itself, nat_cmp_total}
use Rattle.std.proofs.lemmas.List.{take_more, map-append, get_or_default}
use Rattle.std.proofs.lemmas.List.Elements.{All-nil, All-cons, All-push, All-more, All-head}
use Rattle.std.proofs.lemmas.List.Sorted.{searchable_from_sorted, Contains-permutation, IsPermutation-sym}
use Rattle.std.proofs.lemmas.Map.Keys.{Less-from_sorted}
use Rattle.viz_cells.specs.Steps.Numbered.{AreEndsOf, AreKeysOf, AreNumbered, IsNumbered, keys_at}
use Rattle.viz_cells.specs.Steps.Keys.{IsEdgeKey, key_name}

-- ---- a search that can't miss

unequal : (k key : ℕ) (o : Ordering) → k ≡ key → nat_cmp k key ≡ o → is_eq o ≡ false → ⊥
unequal k key o e h n =
    let same : nat_cmp k key ≡ Equal = ap (λ m. nat_cmp m key) e ∙ tied_itself nat_cmp_total key in
    true≢false (ap is_eq (sym same ∙ h) ∙ n)

pub not_missing : (keys : List ℕ) (key i : ℕ) → IsStrictlySortedBy nat_cmp keys → Contains keys key
    → (IsNonDecreasingBy (λ m. ordering_index (nat_cmp m key)) keys → IsPartitionPoint (λ m. nat_cmp m key ≡ Less) (λ m. nat_cmp m key ≡ Greater) keys i) → ⊥
not_missing keys key i s c point =
    let sorted = searchable_from_sorted nat_cmp_total (λ m. m) keys key
    (λ k d from below. ap is_lt (nat_cmp_total.antisymm (get_or keys (k + 1) d) (get_or keys k d) ∙ ap ordering_reverse (Less-from_sorted nat_cmp keys k (k + 1) d s (omega arith) (omega arith)))) in
    let h = point sorted in
    ⊎_elim
    (λ below. unequal (get_or keys c.0 key) key Less c.2 (h.0 c.0 key (omega arith) below) refl)
    (λ from. unequal (get_or keys c.0 key) key Greater c.2 (h.1 c.0 key from c.1) refl)
    (cases_lt c.0 i)

-- ---- keys of cells

-- what `dedup` leaves of sorted keys, which are the keys of cells in another order
pub keys-from_sort : (pieces : List (List ℕ)) (ends sorted left : List ℕ) → AreEndsOf pieces ends → IsPermutation ends sorted → IsSorted nat_cmp sorted
    → IsFiltered (DiffersFromLast nat_eq) [] sorted left → AreKeysOf pieces left
keys-from_sort pieces ends sorted left is moved rises kept =
    let e : left ≡ dedup nat_eq sorted = dedup_is nat_eq sorted left kept in
    record {
      ascending = subst (IsStrictlySortedBy nat_cmp) (sym e) (IsStrictlySortedBy-dedup nat_cmp_total unsigned_ties sorted rises);
      members = λ k. (
        λ c. (is.members k).0
            (Contains-permutation sorted ends k (IsPermutation-sym ends sorted moved) (Contains-from_dedup nat_eq sorted k (subst (λ l. Contains l k) e c))),
        λ c. subst (λ l. Contains l k) (sym e)
            (Contains-dedup_nat sorted k (Contains-permutation ends sorted k moved ((is.members k).1 c))),
      );
    }

-- ---- items of lists

pub item-at : {X : Type 0} (xs : List X) (i : ℕ) (x d : X) → i < length xs → x ≡ get_or xs i x → x ≡ get_or xs i d
item-at xs i x d l e = e ∙ get_or_default xs i x d l

-- what holds of each item holds of this one
pub all-at : {X : Type 0} (P : X → Type 0) (xs : List X) (i : ℕ) (x y : X) → All P xs → i < length xs → x ≡ get_or xs i x → y ≡ x → P y
all-at P xs i x y h l e f = subst P (sym (f ∙ e)) (h i x l)

pub map-more : {X Y : Type 0} (f : X → Y) (xs : List X) (i : ℕ) (x : X) (ys : List Y) (y : Y) → i < length xs → x ≡ get_or xs i x
    → ys ≡ map f (take i xs) → y ≡ f x → ys ++ y ∷ [] ≡ map f (take (i + 1) xs)
map-more f xs i x ys y l e is h =
    ap₂ (λ a b. a ++ b ∷ []) is (h ∙ ap f e) ∙ sym (map-append f (take i xs) (get_or xs i x ∷ [])) ∙ ap (map f) (sym (take_more xs i x l))

pub all-more : {X : Type 0} (P : X → Type 0) (xs : List X) (i : ℕ) (x : X) → i < length xs → x ≡ get_or xs i x
    → All P (take i xs) → P x → All P (take (i + 1) xs)
all-more P xs i x l e h p = All-more P xs i x l h (subst P e p)

-- where names have 8 leaves, and at most 4 if there are keys, there are no keys
pub no_keys : (names : List (List ℕ)) (keys : List ℕ) → All (λ n. length n ≡ 8) names → (1 ≤ length keys → All (λ n. length n ≤ 4) names) → All (IsEdgeKey (length names)) keys
    → [] ≡ map (key_name names) keys
no_keys names [] eight most h = refl
no_keys [] (k ∷ ks) eight most h =
    let key = All-head (IsEdgeKey 0) k ks h in absurd (omega (arith, key.below))
no_keys (n ∷ ns) (k ∷ ks) eight most h =
    absurd (omega (arith, All-head (λ m. length m ≡ 8) n ns eight, All-head (λ m. length m ≤ 4) n ns (most (omega arith))))

-- ---- cells by ranks

pub numbered-none : (keys : List ℕ) → AreNumbered keys [] []
numbered-none keys = record { same = refl; below = All-nil (All (λ r. r < length keys)) }

pub numbered-more : (keys : List ℕ) (pieces cells : List (List ℕ)) (i : ℕ) (piece cell : List ℕ) → i < length pieces → piece ≡ get_or pieces i []
    → AreNumbered keys (take i pieces) cells → IsNumbered keys piece cell → AreNumbered keys (take (i + 1) pieces) (cells ++ cell ∷ [])
numbered-more keys pieces cells i piece cell l is h n = record {
  same =
      map-append (keys_at keys) cells (cell ∷ []) ∙ ap₂ (λ a b. a ++ b ∷ []) h.same (n.same ∙ is) ∙ sym (take_more pieces i [] l);
  below = All-push (All (λ r. r < length keys)) cells cell h.below n.below;
}

pub one_numbered : (keys piece : List ℕ) (a : ℕ) → length piece ≡ 1
    → get_or keys a 0 ≡ get_or piece 0 0 → a < length keys → IsNumbered keys piece (a ∷ [])
one_numbered keys [] a l ea la = absurd (omega arith)
one_numbered keys (x ∷ []) a l ea la = record {
  same = ap (λ p. p ∷ []) ea;
  below = All-cons (λ r. r < length keys) a [] la (All-nil (λ r. r < length keys));
}
one_numbered keys (x ∷ y ∷ ys) a l ea la = absurd (omega arith)

pub two_numbered : (keys piece : List ℕ) (a b : ℕ) → length piece ≡ 2
    → get_or keys a 0 ≡ get_or piece 0 0 → get_or keys b 0 ≡ get_or piece 1 0 → a < length keys → b < length keys → IsNumbered keys piece (a ∷ b ∷ [])
two_numbered keys [] a b l ea eb la lb = absurd (omega arith)
two_numbered keys (x ∷ []) a b l ea eb la lb = absurd (omega arith)
two_numbered keys (x ∷ y ∷ []) a b l ea eb la lb =
    let P : ℕ → Type 0 = λ r. r < length keys in record {
      same = ap₂ (λ p q. p ∷ q ∷ []) ea eb;
      below = All-cons P a (b ∷ []) la (All-cons P b [] lb (All-nil P));
    }
two_numbered keys (x ∷ y ∷ z ∷ zs) a b l ea eb la lb = absurd (omega arith)

pub three_numbered : (keys piece : List ℕ) (a b c : ℕ) → length piece ≡ 3
    → get_or keys a 0 ≡ get_or piece 0 0 → get_or keys b 0 ≡ get_or piece 1 0 → get_or keys c 0 ≡ get_or piece 2 0
    → a < length keys → b < length keys → c < length keys → IsNumbered keys piece (a ∷ b ∷ c ∷ [])
three_numbered keys [] a b c l ea eb ec la lb lc = absurd (omega arith)
three_numbered keys (x ∷ []) a b c l ea eb ec la lb lc = absurd (omega arith)
three_numbered keys (x ∷ y ∷ []) a b c l ea eb ec la lb lc = absurd (omega arith)
three_numbered keys (x ∷ y ∷ z ∷ []) a b c l ea eb ec la lb lc =
    let P : ℕ → Type 0 = λ r. r < length keys in record {
      same = ap₂ (λ p qs. p ∷ qs) ea (ap₂ (λ p q. p ∷ q ∷ []) eb ec);
      below = All-cons P a (b ∷ c ∷ []) la (All-cons P b (c ∷ []) lb (All-cons P c [] lc (All-nil P)));
    }
three_numbered keys (x ∷ y ∷ z ∷ w ∷ ws) a b c l ea eb ec la lb lc = absurd (omega arith)

pub some_numbered : (keys piece : List ℕ) (a b c d : ℕ) → length piece ≤ 3
    → (0 < length piece → get_or keys a 0 ≡ get_or piece 0 0) → (1 < length piece → get_or keys b 0 ≡ get_or piece 1 0) → (2 < length piece → get_or keys c 0 ≡ get_or piece 2 0)
    → (0 < length piece → a < length keys) → (1 < length piece → b < length keys) → (2 < length piece → c < length keys)
    → IsNumbered keys piece (take (length piece) (a ∷ b ∷ c ∷ d ∷ []))
some_numbered keys [] a b c d l ea eb ec la lb lc = record { same = refl; below = All-nil (λ r. r < length keys) }
some_numbered keys (x ∷ []) a b c d l ea eb ec la lb lc = one_numbered keys (x ∷ []) a refl (ea (omega arith)) (la (omega arith))
some_numbered keys (x ∷ y ∷ []) a b c d l ea eb ec la lb lc =
    two_numbered keys (x ∷ y ∷ []) a b refl (ea (omega arith)) (eb (omega arith)) (la (omega arith)) (lb (omega arith))
some_numbered keys (x ∷ y ∷ z ∷ []) a b c d l ea eb ec la lb lc =
    three_numbered keys (x ∷ y ∷ z ∷ []) a b c refl (ea (omega arith)) (eb (omega arith)) (ec (omega arith)) (la (omega arith)) (lb (omega arith)) (lc (omega arith))
some_numbered keys (x ∷ y ∷ z ∷ w ∷ ws) a b c d l ea eb ec la lb lc = absurd (omega arith)
