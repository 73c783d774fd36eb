-- From a fact or a test of each mask, written out, to a fact of any mask.
use Rattle.std.proofs.Common.{◌≡◌, ℕ, ◌<◌, zero, suc, Bool, true, false, not, ◌||◌, arith}
use Rattle.std.proofs.lemmas.Bool.{agree_below, agree_below_at}
use Rattle.viz_fraction.specs.Cases.{IsCase}

-- a fact of each number below n, one by one
abbrev pub EachBelow : (ℕ → Type 0) → ℕ → Type 0
EachBelow P zero = Unit {0}
EachBelow P (suc n) = P 0 × EachBelow (λ k. P (suc k)) n

-- a fact of each number below n is one of any of them
each_below : (P : ℕ → Type 0) (n : ℕ) → EachBelow P n → (k : ℕ) → k < n → P k
each_below P zero facts k below = absurd (omega arith)
each_below P (suc n) (here, later) zero below = here
each_below P (suc n) (here, later) (suc k) below = each_below (λ i. P (suc i)) n later k (omega arith)

-- a fact of each mask is one of any mask
pub each_case : (P : ℕ → ℕ → Type 0)
    → EachBelow (P 1) 2 → EachBelow (P 2) 4 → EachBelow (P 3) 8 → EachBelow (P 4) 16
    → (corners mask : ℕ) → IsCase corners mask → P corners mask
each_case P one two three four zero mask known = absurd (omega arith)
each_case P one two three four (suc zero) mask known = each_below (P 1) 2 one mask known.below
each_case P one two three four (suc (suc zero)) mask known = each_below (P 2) 4 two mask known.below
each_case P one two three four (suc (suc (suc zero))) mask known =
    each_below (P 3) 8 three mask known.below
each_case P one two three four (suc (suc (suc (suc zero)))) mask known =
    each_below (P 4) 16 four mask known.below
each_case P one two three four (suc (suc (suc (suc (suc corners))))) mask known =
    absurd (omega arith)

-- the answer of a test that always passes
abbrev pub yes : ℕ → Bool
yes k = true

-- a test that passes at each mask passes at any
pub any_case : (p : ℕ → ℕ → Bool)
    → agree_below (p 1) yes 2 ≡ true
    → agree_below (p 2) yes 4 ≡ true
    → agree_below (p 3) yes 8 ≡ true
    → agree_below (p 4) yes 16 ≡ true
    → (corners mask : ℕ) → IsCase corners mask → p corners mask ≡ true
any_case p one two three four zero mask known = absurd (omega arith)
any_case p one two three four (suc zero) mask known =
    agree_below_at (p 1) yes 2 mask one known.below
any_case p one two three four (suc (suc zero)) mask known =
    agree_below_at (p 2) yes 4 mask two known.below
any_case p one two three four (suc (suc (suc zero))) mask known =
    agree_below_at (p 3) yes 8 mask three known.below
any_case p one two three four (suc (suc (suc (suc zero)))) mask known =
    agree_below_at (p 4) yes 16 mask four known.below
any_case p one two three four (suc (suc (suc (suc (suc corners))))) mask known =
    absurd (omega arith)

-- a mask of at most four corners is below 16
pub mask_below : (corners mask : ℕ) → IsCase corners mask → mask < 16
mask_below zero mask known = absurd (omega arith)
mask_below (suc zero) mask known = omega (arith, known.below)
mask_below (suc (suc zero)) mask known = omega (arith, known.below)
mask_below (suc (suc (suc zero))) mask known = omega (arith, known.below)
mask_below (suc (suc (suc (suc zero)))) mask known = known.below
mask_below (suc (suc (suc (suc (suc corners))))) mask known = absurd (omega arith)

-- where one of two tests passes and the first does not, the second does
pub passes_other : (a b : Bool) → (a || b) ≡ true → a ≡ false → b ≡ true
passes_other a b either fails = grind arith

-- where the second test passes if the first does, and the first does, the second does
pub passes_then : (a b : Bool) → (not a || b) ≡ true → a ≡ true → b ≡ true
passes_then a b either passes = grind arith
