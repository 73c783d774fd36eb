-- Lists by their places.
use Rattle.std.proofs.Common.{true≢false, replicate, get_or, sym, ◌≡◌, ℕ, zero, suc, ◌+◌, ◌<◌, Bool, true, false, ◌||◌, List, [], ◌∷◌, map, refl, ap, ap₂, ◌∙◌, ⊎_elim, arith}
use Rattle.std.specs.List.{Contains, list_any, range_with_len}
use Rattle.std.proofs.lemmas.List.FromFn.{length-range_with_len, get_or-range_with_len}
use Rattle.viz_sheet.proofs.MemberLemmas.{here, there, member_cases, no_member}

pub map-twice : {X Y Z : Type 0} (f : Y → Z) (g : X → Y) (xs : List X) → map f (map g xs) ≡ map (λ x. f (g x)) xs
map-twice f g [] = refl
map-twice f g (x ∷ xs) = ap (λ r. f (g x) ∷ r) (map-twice f g xs)

-- functions that agree below a number make equal lists
pub map-same : {X : Type 0} (f g : ℕ → X) (from n : ℕ) → ((k : ℕ) → k < from + n → f k ≡ g k) → map f (range_with_len from n) ≡ map g (range_with_len from n)
map-same f g from zero h = refl
map-same f g from (suc n) h = ap₂ (λ a b. a ∷ b) (h from (omega arith)) (map-same f g (from + 1) n (λ k l. h k (omega (arith, l))))

-- what a range has is below its length
pub in_range : (n k : ℕ) → Contains (range_with_len 0 n) k → k < n
in_range n k c =
    let l : c.0 < n = omega (arith, c.1, length-range_with_len 0 n) in
    omega (arith, c.2, get_or-range_with_len 0 n c.0 k l)

or_true : (b : Bool) → (b || true) ≡ true
or_true true = refl
or_true false = refl

-- an item that passes is found
pub any-found : {X : Type 0} (p : X → Bool) (xs : List X) (x : X) → Contains xs x → p x ≡ true → list_any p xs ≡ true
any-found p [] x c h = absurd (no_member x c)
any-found p (y ∷ ys) x c h =
    ⊎_elim
    (λ e. ap (λ z. p z || list_any p ys) e ∙ ap (λ b. b || list_any p ys) h)
    (λ d. ap (λ b. p y || b) (any-found p ys x d h) ∙ or_true (p y))
    (member_cases y ys x c)

by_first : {X : Type 0} (p : X → Bool) (x : X) (xs : List X) (b : Bool) → p x ≡ b → (b || list_any p xs) ≡ true → (list_any p xs ≡ true → (y : X) × Contains xs y × (p y ≡ true))
    → (y : X) × Contains (x ∷ xs) y × (p y ≡ true)
by_first p x xs true e f rest = (x, here x xs, e)
by_first p x xs false e f rest = let r = rest f in (r.0, there x xs r.0 r.1, r.2)

-- where one passes, there is such an item
pub any-one : {X : Type 0} (p : X → Bool) (xs : List X) → list_any p xs ≡ true → (x : X) × Contains xs x × (p x ≡ true)
any-one p [] h = absurd (true≢false (sym h))
any-one p (x ∷ xs) h = by_first p x xs (p x) refl h (λ e. any-one p xs e)

-- no mark among none
pub none-true : (n r : ℕ) → get_or (replicate n false) r false ≡ false
none-true zero r = refl
none-true (suc n) zero = refl
none-true (suc n) (suc r) = none-true n r
