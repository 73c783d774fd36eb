-- Numbers in a range, one after the other.
use Rattle.std.proofs.Common.{◌≡◌, ℕ, ℤ, ◌+◌, ◌<◌, Bool, true, List, length, map, take, get_or, refl, sym, ap, ◌∙◌}
use Rattle.std.specs.List.{list_all}
use Rattle.std.proofs.lemmas.List.{get_or-map, length-map}
use Rattle.std.proofs.lemmas.List.Folds.{list_all_more}

-- one number more passes a test
pub one_more_passes : {X : Type 0} (p : ℤ → Bool) (val : X → ℤ) (xs : List X) (i : ℕ) (x : X) → i < length xs → x ≡ get_or xs i x
    → list_all p (take i (map val xs)) ≡ true → p (val x) ≡ true → list_all p (take (i + 1) (map val xs)) ≡ true
one_more_passes p val xs i x lt is so_far fit =
    let long : i < length (map val xs) = rw (length-map xs val) lt in
    let item : get_or (map val xs) i (val x) ≡ val x = get_or-map val xs i x (val x) lt ∙ ap val (sym is) in
    list_all_more p (map val xs) i (val x) long ∙ rw (so_far, item, fit) refl
