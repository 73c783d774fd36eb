-- Truth values as bits: words of private contracts alone.
use Rattle.std.specs.Prelude.{ℕ, Bool, cond}

-- a truth value as a bit
abbrev pub bit_of : Bool → ℕ
bit_of b = cond b 1 0
