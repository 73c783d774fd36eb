-- Members of lists; a list that strictly ascends is known by them.
use Rattle.std.proofs.Common.{◌≡◌, ℕ, zero, suc, ◌<◌, ◌⊎◌, inl, inr, ⊎_elim, List, [], ◌∷◌, length, get_or, Ordering, Less, is_lt, refl, sym, ap, subst, ◌∙◌, true≢false, arith}
use Rattle.std.specs.Cmp.{IsTotalOrder}
use Rattle.std.specs.List.{Contains}
use Rattle.std.specs.List.Sorted.{IsStrictlySortedBy}
use Rattle.std.proofs.lemmas.Cmp.{tied_itself}
use Rattle.std.proofs.lemmas.List.Elements.{All-from_recursion, All-contains}
use Rattle.std.proofs.lemmas.Map.Keys.{sorted_head, sorted_tail}

pub here : {X : Type 0} (x : X) (xs : List X) → Contains (x ∷ xs) x
here x xs = (0, omega arith, refl)

pub there : {X : Type 0} (x : X) (xs : List X) (y : X) → Contains xs y → Contains (x ∷ xs) y
there x xs y c = (suc c.0, omega (arith, c.1), c.2)

cases_at : {X : Type 0} (x : X) (xs : List X) (y : X) (k : ℕ) → k < length (x ∷ xs) → get_or (x ∷ xs) k y ≡ y → (x ≡ y) ⊎ Contains xs y
cases_at x xs y zero l e = inl e
cases_at x xs y (suc k) l e = inr (k, omega arith, e)

pub member_cases : {X : Type 0} (x : X) (xs : List X) (y : X) → Contains (x ∷ xs) y → (x ≡ y) ⊎ Contains xs y
member_cases x xs y c = cases_at x xs y c.0 c.1 c.2

pub no_member : {X : Type 0} (y : X) → Contains [] y → ⊥
no_member y c = omega (arith, c.1)

-- strictly sorted lists with the same members are the same

module _ {X : Type 0} {R : X → X → Ordering} (o : IsTotalOrder R) where
  pub all_after : (x : X) (xs : List X) → IsStrictlySortedBy R (x ∷ xs) → (y : X) → Contains xs y → R x y ≡ Less
  all_after x xs s y c = All-contains (λ z. R x z ≡ Less) xs y (All-from_recursion (λ z. R x z ≡ Less) xs (sorted_head R x xs s)) c

  not_after_itself : (x : X) → R x x ≡ Less → ⊥
  not_after_itself x h = true≢false (ap is_lt (sym h ∙ tied_itself o x))

  same_heads : (x : X) (xs : List X) (y : X) (ys : List X) → IsStrictlySortedBy R (x ∷ xs) → IsStrictlySortedBy R (y ∷ ys) → Contains (y ∷ ys) x → Contains (x ∷ xs) y → x ≡ y
  same_heads x xs y ys s t c d =
      ⊎_elim (λ e. sym e)
      (λ in_ys. ⊎_elim (λ e. e) (λ in_xs. absurd (not_after_itself x (o.trans x y x (all_after x xs s y in_xs) (all_after y ys t x in_ys)))) (member_cases x xs y d))
      (member_cases y ys x c)

  in_tail : (x : X) (xs : List X) (y : X) (ys : List X) → IsStrictlySortedBy R (x ∷ xs) → x ≡ y → (z : X) → Contains xs z → Contains (y ∷ ys) z → Contains ys z
  in_tail x xs y ys s e z c d =
      ⊎_elim
      (λ is_head. absurd (not_after_itself z (subst (λ u. R u z ≡ Less) (e ∙ is_head) (all_after x xs s z c))))
      (λ in_ys. in_ys)
      (member_cases y ys z d)

  pub same_from_members : (xs ys : List X) → IsStrictlySortedBy R xs → IsStrictlySortedBy R ys → ((z : X) → Contains xs z → Contains ys z) → ((z : X) → Contains ys z → Contains xs z) → xs ≡ ys
  same_from_members [] [] s t there_too back = refl
  same_from_members [] (y ∷ ys) s t there_too back = absurd (no_member y (back y (here y ys)))
  same_from_members (x ∷ xs) [] s t there_too back = absurd (no_member x (there_too x (here x xs)))
  same_from_members (x ∷ xs) (y ∷ ys) s t there_too back =
      let e : x ≡ y = same_heads x xs y ys s t (there_too x (here x xs)) (back y (here y ys)) in
      let rest : xs ≡ ys = same_from_members xs ys (sorted_tail R x xs s) (sorted_tail R y ys t)
      (λ z c. in_tail x xs y ys s e z c (there_too z (there x xs z c)))
      (λ z c. in_tail y ys x xs t (sym e) z c (back z (there y ys z c))) in
      λ i. e i ∷ rest i
