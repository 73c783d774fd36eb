-- Values behind a number, one by one.
use Rattle.std.proofs.Common.{◌≡◌, ℕ, zero, suc, ◌+◌, ◌-◌, ◌<◌, List, ◌∷◌, ◌++◌, [], length, refl, ap, sym, ◌∙◌, append_assoc, arith}
use Rattle.viz_make.specs.Volume.{next, value_in, values_behind}

pub values_length : (r n : ℕ) → length (values_behind r n) ≡ n
values_length r zero = refl
values_length r (suc n) = ap suc (values_length (next r) n)

values_first : (r n : ℕ) → 0 < n → values_behind r n ≡ value_in (next r) ∷ values_behind (next r) (n - 1)
values_first r zero some = absurd (omega (arith, some))
values_first r (suc n) some = let one : suc n - 1 ≡ n = omega arith in sym (ap (λ m. value_in (next r) ∷ values_behind (next r) m) one)

-- one value more behind those that stand
pub values_more : (made : List ℕ) (r n k : ℕ) → k < n
    → (made ++ value_in (next r) ∷ []) ++ values_behind (next r) (n - (k + 1)) ≡ made ++ values_behind r (n - k)
values_more made r n k below =
    let step = values_first r (n - k) (omega (arith, below)) in
    let rest : n - (k + 1) ≡ n - k - 1 = omega arith in
    append_assoc made (value_in (next r) ∷ []) (values_behind (next r) (n - (k + 1)))
    ∙ ap (λ m. made ++ value_in (next r) ∷ values_behind (next r) m) rest
    ∙ ap (λ vs. made ++ vs) (sym step)
