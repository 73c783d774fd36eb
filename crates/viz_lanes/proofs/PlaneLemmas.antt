-- A plane grows by a word or by a bit.
use Rattle.std.proofs.Common.{Result, IfOk, subst, ℤ, pos, ◌≡◌, ℕ, zero, suc, ◌+◌, ◌-◌, ◌<◌, ◌&&◌, Bool, true, false, List, [], ◌∷◌, ◌++◌, length, map, take, drop, get_or, refl, sym, ap, ap₂, ◌∙◌, arith, take-add}
use Rattle.std.specs.List.{list_all}
use Rattle.std.proofs.lemmas.List.{length-drop, map-append, take_all}
use Rattle.std.proofs.lemmas.List.Folds.{list_all_more}
use Rattle.std.proofs.lemmas.Simd.{map-map}

both_true : (a b : Bool) → (a && b) ≡ true → (a ≡ true) × (b ≡ true)
both_true true b h = (refl, h)
both_true false b h = cc

-- what holds of each item holds of those that are left
own_behind : {X : Type 0} (own : X → Bool) (xs : List X) (n : ℕ) → list_all own xs ≡ true → list_all own (drop n xs) ≡ true
own_behind own xs zero h = h
own_behind own [] (suc n) h = refl
own_behind own (x ∷ xs) (suc n) h = own_behind own xs n (both_true (own x) (list_all own xs) h).1

left : {X : Type 0} (xs : List X) (n : ℕ) → take (length xs - n) (drop n xs) ≡ drop n xs
left xs n = let long = length-drop n xs in take_all (length xs - n) (drop n xs) (omega (arith, long))

pub own_left : {X : Type 0} (own : X → Bool) (xs : List X) (n : ℕ) → list_all own xs ≡ true → list_all own (take (length xs - n) (drop n xs)) ≡ true
own_left own xs n h = ap (list_all own) (left xs n) ∙ own_behind own xs n h

-- one item more
pub own_more : {X : Type 0} (own : X → Bool) (xs : List X) (i : ℕ) (x : X) → i < length xs → x ≡ get_or xs i x
    → list_all own (take i xs) ≡ true → own x ≡ true → list_all own (take (i + 1) xs) ≡ true
own_more own xs i x lt is so_far fit =
    let item : get_or xs i x ≡ x = sym is in
    list_all_more own xs i x lt ∙ rw (so_far, item, fit) refl

-- one word more
pub plane_of_word : {X : Type 0} (p : X → Bool) (xs : List X) (at : ℕ) {before after word : List Bool}
    → before ≡ map p (take at xs) → word ≡ map p (take 64 (take (length xs - at) (drop at xs))) → after ≡ before ++ word
    → after ≡ map p (take (at + 64) xs)
plane_of_word p xs at so_far is new =
    let next = is ∙ ap (λ ys. map p (take 64 ys)) (left xs at) in
    new ∙ ap₂ (λ fs bs. fs ++ bs) so_far next ∙ sym (map-append p (take at xs) (take 64 (drop at xs))) ∙ ap (map p) (sym (take-add at 64 xs))

-- numbers without a sign, one by one and as whole numbers
pub of_naturals : {E : Type 0} (r : Result (List Bool) E) (p : ℤ → Bool) (xs : List ℕ) → IfOk r (λ bits. bits ≡ map (λ x. p (pos x)) xs)
    → IfOk r (λ bits. bits ≡ map p (map (λ x. pos x) xs))
of_naturals r p xs told = subst (λ bs. IfOk r (λ bits. bits ≡ bs)) (sym (map-map p (λ x. pos x) xs)) told
