-- Members of flattened and of kept lists.
use Rattle.std.proofs.Common.{◌≡◌, ℕ, zero, suc, ◌+◌, ◌<◌, Bool, true, false, not, ◌⊎◌, ⊎_elim, List, [], ◌∷◌, ◌++◌, length, get_or, map, Ordering, Less, refl, sym, ap, ap₂, subst, ◌∙◌, true≢false, arith}
use Rattle.std.specs.List.{All, AllByRecursion, Contains, flat_map}
use Rattle.std.specs.List.Sorted.{IsStrictlySortedBy}
use Rattle.std.proofs.lemmas.List.Elements.{All-nil, All-cons, All-head, All-tail, All-append, Contains-append_left, Contains-append_right, Contains-append_cases}
use Rattle.viz_sheet.specs.Kept.{kept}
use Rattle.viz_sheet.proofs.MemberLemmas.{here, there, member_cases, no_member}
use Rattle.viz_meaning.proofs.ListLemmas.{contains-map}
use Rattle.viz_cells.specs.Steps.Keys.{key_of}
use Rattle.viz_clip.specs.Steps.Keys.{cut_keys}

-- ---- flattened lists

-- an item of what one item gives is one of what all give
pub contains-flat : {X Y : Type 0} (f : X → List Y) (xs : List X) (x : X) (y : Y) → Contains xs x → Contains (f x) y → Contains (flat_map f xs) y
contains-flat f [] x y c d = absurd (no_member x c)
contains-flat f (z ∷ xs) x y c d =
    ⊎_elim
    (λ e. Contains-append_left (f z) (flat_map f xs) y (subst (λ w. Contains (f w) y) (sym e) d))
    (λ k. Contains-append_right (f z) (flat_map f xs) y (contains-flat f xs x y k d))
    (member_cases z xs x c)

-- and each of what all give is one of what one gives
pub record IsFrom {X Y : Type 0} (f : X → List Y) (xs : List X) (y : Y) : Type 0 where
  pub item : X
  pub among : Contains xs item
  pub gives : Contains (f item) y

pub from-flat : {X Y : Type 0} (f : X → List Y) (xs : List X) (y : Y) → Contains (flat_map f xs) y → IsFrom f xs y
from-flat f [] y c = absurd (no_member y c)
from-flat f (x ∷ xs) y c =
    ⊎_elim
    (λ d. record { item = x; among = here x xs; gives = d })
    (λ d. let rest = from-flat f xs y d in record { item = rest.item; among = there x xs rest.item rest.among; gives = rest.gives })
    (Contains-append_cases (f x) (flat_map f xs) y c)

-- pieces of pieces
pub contains-deep : {X Y : Type 0} (h : X → List (List Y)) (xs : List X) (x : X) (y : Y) → Contains xs x → Contains (flat_map (λ t. t) (h x)) y
    → Contains (flat_map (λ t. t) (flat_map h xs)) y
contains-deep h xs x y c d =
    let from = from-flat (λ t. t) (h x) y d in
    contains-flat (λ t. t) (flat_map h xs) from.item y (contains-flat h xs x from.item c from.among) from.gives

pub all-flat_map : {X Y : Type 0} (P : Y → Type 0) (f : X → List Y) (xs : List X) → All (λ x. All P (f x)) xs → All P (flat_map f xs)
all-flat_map P f [] h = All-nil P
all-flat_map P f (x ∷ xs) h = All-append P (f x) (flat_map f xs) (All-head (λ z. All P (f z)) x xs h) (all-flat_map P f xs (All-tail (λ z. All P (f z)) x xs h))

-- ---- keys

pub has-cut : (first last : List ℕ) (i j : ℕ) → Contains first i → Contains last j → Contains (cut_keys first last) (key_of i j)
has-cut first last i j c d =
    contains-flat (λ i. map (key_of i) last) first i (key_of i j) c (contains-map (key_of i) last j d)

-- ---- kept lists

module _ {X : Type 0} where
  pub all-kept : (P : X → Type 0) (marks : List Bool) (xs : List X) → All P xs → All P (kept marks xs)
  all-kept P [] xs h = All-nil P
  all-kept P (m ∷ ms) [] h = All-nil P
  all-kept P (true ∷ ms) (x ∷ xs) h = All-cons P x (kept ms xs) (All-head P x xs h) (all-kept P ms xs (All-tail P x xs h))
  all-kept P (false ∷ ms) (x ∷ xs) h = all-kept P ms xs (All-tail P x xs h)

  pub kept-in : (marks : List Bool) (xs : List X) (y : X) → Contains (kept marks xs) y → Contains xs y
  kept-in [] xs y c = absurd (no_member y c)
  kept-in (m ∷ ms) [] y c = absurd (no_member y c)
  kept-in (true ∷ ms) (x ∷ xs) y c = ⊎_elim (λ e. subst (Contains (x ∷ xs)) e (here x xs)) (λ d. there x xs y (kept-in ms xs y d)) (member_cases x (kept ms xs) y c)
  kept-in (false ∷ ms) (x ∷ xs) y c = there x xs y (kept-in ms xs y c)

  pub kept-true : (T : X → Bool) (xs : List X) → All (λ x. T x ≡ true) (kept (map T xs) xs)
  kept-true T [] = All-nil (λ x. T x ≡ true)
  kept-true T (x ∷ xs) = at (T x) refl (kept-true T xs)
    where
      at : (b : Bool) → T x ≡ b → All (λ y. T y ≡ true) (kept (map T xs) xs) → All (λ y. T y ≡ true) (kept (b ∷ map T xs) (x ∷ xs))
      at true e rest = All-cons (λ y. T y ≡ true) x (kept (map T xs) xs) e rest
      at false e rest = rest

  pub kept-false : (T : X → Bool) (xs : List X) → All (λ x. T x ≡ false) (kept (map not (map T xs)) xs)
  kept-false T [] = All-nil (λ x. T x ≡ false)
  kept-false T (x ∷ xs) = at (T x) refl (kept-false T xs)
    where
      at : (b : Bool) → T x ≡ b → All (λ y. T y ≡ false) (kept (map not (map T xs)) xs) → All (λ y. T y ≡ false) (kept (not b ∷ map not (map T xs)) (x ∷ xs))
      at true e rest = rest
      at false e rest = All-cons (λ y. T y ≡ false) x (kept (map not (map T xs)) xs) e rest

  pub in-kept : (T : X → Bool) (xs : List X) (y : X) → Contains xs y → T y ≡ true → Contains (kept (map T xs) xs) y
  in-kept T [] y c t = absurd (no_member y c)
  in-kept T (x ∷ xs) y c t = at (T x) refl (λ d. in-kept T xs y d t)
    where
      at : (b : Bool) → T x ≡ b → (Contains xs y → Contains (kept (map T xs) xs) y) → Contains (kept (b ∷ map T xs) (x ∷ xs)) y
      at true e rest = ⊎_elim (λ s. subst (Contains (x ∷ kept (map T xs) xs)) s (here x (kept (map T xs) xs))) (λ d. there x (kept (map T xs) xs) y (rest d)) (member_cases x xs y c)
      at false e rest = ⊎_elim (λ s. absurd (true≢false (sym t ∙ ap T (sym s) ∙ e))) rest (member_cases x xs y c)

  pub in-left : (T : X → Bool) (xs : List X) (y : X) → Contains xs y → T y ≡ false → Contains (kept (map not (map T xs)) xs) y
  in-left T [] y c t = absurd (no_member y c)
  in-left T (x ∷ xs) y c t = at (T x) refl (λ d. in-left T xs y d t)
    where
      at : (b : Bool) → T x ≡ b → (Contains xs y → Contains (kept (map not (map T xs)) xs) y) → Contains (kept (not b ∷ map not (map T xs)) (x ∷ xs)) y
      at true e rest = ⊎_elim (λ s. absurd (true≢false (sym e ∙ ap T s ∙ t))) rest (member_cases x xs y c)
      at false e rest = ⊎_elim (λ s. subst (Contains (x ∷ kept (map not (map T xs)) xs)) s (here x (kept (map not (map T xs)) xs))) (λ d. there x (kept (map not (map T xs)) xs) y (rest d)) (member_cases x xs y c)

pub kept-map : {X Y : Type 0} (g : X → Y) (marks : List Bool) (xs : List X) → kept marks (map g xs) ≡ map g (kept marks xs)
kept-map g [] xs = refl
kept-map g (m ∷ ms) [] = refl
kept-map g (true ∷ ms) (x ∷ xs) = ap (λ l. g x ∷ l) (kept-map g ms xs)
kept-map g (false ∷ ms) (x ∷ xs) = kept-map g ms xs

-- ---- lists in strict order

module _ {X : Type 0} (R : X → X → Ordering) where
  pub sorted-append : (xs ys : List X) → IsStrictlySortedBy R xs → IsStrictlySortedBy R ys → All (λ x. AllByRecursion (λ y. R x y ≡ Less) ys) xs → IsStrictlySortedBy R (xs ++ ys)
  unfolding IsStrictlySortedBy
  sorted-append [] ys s t h = t
  sorted-append (x ∷ xs) ys s t h =
      (both xs s.0, sorted-append xs ys s.1 t (All-tail (λ z. AllByRecursion (λ y. R z y ≡ Less) ys) x xs h))
    where
      both : (zs : List X) → AllByRecursion (λ y. R x y ≡ Less) zs → AllByRecursion (λ y. R x y ≡ Less) (zs ++ ys)
      both [] a = All-head (λ z. AllByRecursion (λ y. R z y ≡ Less) ys) x xs h
      both (z ∷ zs) a = (a.0, both zs a.1)

-- a list in strict order stays so under a function that keeps the order of its items
module _ {X Y : Type 0} (R : X → X → Ordering) (S : Y → Y → Ordering) (g : X → Y) (P : X → Type 0) (keeps : (x y : X) → P x → P y → R x y ≡ Less → S (g x) (g y) ≡ Less) where
  after : (x : X) (xs : List X) → P x → All P xs → AllByRecursion (λ y. R x y ≡ Less) xs → AllByRecursion (λ y. S (g x) y ≡ Less) (map g xs)
  after x [] p h a = tt
  after x (z ∷ zs) p h a = (keeps x z p (All-head P z zs h) a.0, after x zs p (All-tail P z zs h) a.1)

  pub sorted-map : (xs : List X) → All P xs → IsStrictlySortedBy R xs → IsStrictlySortedBy S (map g xs)
  unfolding IsStrictlySortedBy
  sorted-map [] h s = tt
  sorted-map (x ∷ xs) h s = (after x xs (All-head P x xs h) (All-tail P x xs h) s.0, sorted-map xs (All-tail P x xs h) s.1)
