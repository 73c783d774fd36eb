-- The greatest common divisor of whole numbers (Euclid, Elements, book VII).
use Rattle.std.specs.Prelude.{ℕ, zero, suc, ◌%◌}
use Rattle.std.specs.Int.{IsGcd}

-- Euclid's algorithm, in at most n steps
abbrev pub gcd_within : ℕ → ℕ → ℕ → ℕ
gcd_within zero a b = a
gcd_within (suc n) a zero = a
gcd_within (suc n) a (suc b) = gcd_within n (suc b) (a % suc b)

-- the greatest number that divides both, and the other number where one is 0
unfoldable pub gcd : ℕ → ℕ → ℕ
gcd a b = gcd_within b a b

-- it divides both, and each number that divides both divides it
abbrev pub GcdIsGreatest : Type 0
GcdIsGreatest = (a b : ℕ) → IsGcd a b (gcd a b)
