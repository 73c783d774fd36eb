-- Decimals as the code comes to them: words of private contracts alone.
use Rattle.std.specs.Prelude.{ℕ, ℤ, pos, negsuc, suc, ◌+◌, ◌-◌, ◌*◌, ◌/◌, ◌^◌, nat_le, min, List}
use Rattle.std.specs.Prelude.{fold, Option, Some, None, if◌then◌else◌}

-- a magnitude within the limit, if it is one
abbrev pub small : Option ℕ → Option ℕ
small None = None
small (Some n) = if nat_le n (10 ^ 27) then Some n else None

-- m · 10^a / 10^b, truncated
abbrev pub scaled : ℕ → ℕ → ℕ → ℕ
scaled m a b = m * 10 ^ a / 10 ^ b

-- the powers of ten that an exponent multiplies and divides by, past 100 no larger
abbrev pub clipped : ℤ → ℕ × ℕ
clipped (pos e) = (min e 100, 0)
clipped (negsuc e) = (0, min (suc e) 100)

-- the number n with further digits behind its own
abbrev pub more_digits : ℕ → List ℕ → ℕ
more_digits n digits = fold (λ m b. m * 10 + (b - 48)) n digits
