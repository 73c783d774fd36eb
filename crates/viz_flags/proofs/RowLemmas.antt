-- The rows of the code's table are the cells of each mask.
use Rattle.std.proofs.Common.{◌≡◌, ◌≢◌, ℕ, zero, suc, ◌<◌, List, [], ◌∷◌, ◌++◌, nat_eq, false, refl, ap, ◌∙◌, append_assoc, arith, slice_index, slice_index_or}
use Rattle.std.proofs.lemmas.Bool.Decides.{nat_tests}
use Rattle.viz_fraction.specs.Cases.{cells_at}
use Rattle.viz_fraction.proofs.CaseTable.{EachBelow}
use Rattle.viz_flags.specs.declared.cases.TheConstants.{ROWS}
use Rattle.viz_flags.specs.Steps.Cases.{numbered, held}

-- a fact of each number below n, written out, is one of any
pub each_below : (P : ℕ → Type 0) (n : ℕ) → EachBelow P n → (k : ℕ) → k < n → P k
each_below P zero facts k below = absurd (omega arith)
each_below P (suc n) (here, later) zero below = here
each_below P (suc n) (here, later) (suc k) below = each_below (λ i. P (suc i)) n later k (omega arith)

-- the row of each mask holds its cells
pub held-numbered : (row : ℕ × List ℕ) (edges : List ℕ) (mask : ℕ) → mask < 16
    → held (slice_index_or ROWS mask row).0 (slice_index_or ROWS mask row).1 edges ≡ numbered mask edges
unfolding cells_at
held-numbered row edges mask below =
    each_below (λ m. held (slice_index_or ROWS m row).0 (slice_index_or ROWS m row).1 edges ≡ numbered m edges) 16
    (refl, (refl, (refl, (refl, (refl, (refl, (refl, (refl, (refl, (refl, (refl, (refl, (refl, (refl, (refl, (refl, tt)))))))))))))))) mask below

-- two triangles one after the other
pub held-two : (count : ℕ) (ends edges : List ℕ) (t0 t1 t2 : List (List ℕ)) → count ≢ 0 → count ≢ 1
    → let at : ℕ → ℕ = λ k. slice_index edges (slice_index ends k) in
    t1 ≡ t0 ++ (at 0 ∷ at 1 ∷ at 2 ∷ []) ∷ []
    → t2 ≡ t1 ++ (at 3 ∷ at 4 ∷ at 5 ∷ []) ∷ []
    → t2 ≡ t0 ++ held count ends edges
held-two count ends edges t0 t1 t2 some more p q =
    let at : ℕ → ℕ = λ k. slice_index edges (slice_index ends k) in
    let first : List (List ℕ) = (at 0 ∷ at 1 ∷ at 2 ∷ []) ∷ [] in
    let second : List (List ℕ) = (at 3 ∷ at 4 ∷ at 5 ∷ []) ∷ [] in
    let zero_fails : nat_eq count 0 ≡ false = grind (arith, nat_tests) in
    let one_fails : nat_eq count 1 ≡ false = grind (arith, nat_tests) in
    rw zero_fails (rw one_fails (q ∙ ap (λ t. t ++ second) p ∙ append_assoc t0 first second))

-- the row of a mask, one after the others
pub held-pushed : (row : ℕ × List ℕ) (edges : List ℕ) (mask : ℕ) → mask < 16 → (t0 t1 : List (List ℕ))
    → t1 ≡ t0 ++ held (slice_index_or ROWS mask row).0 (slice_index_or ROWS mask row).1 edges → t1 ≡ t0 ++ numbered mask edges
held-pushed row edges mask below t0 t1 p = p ∙ ap (λ t. t0 ++ t) (held-numbered row edges mask below)
