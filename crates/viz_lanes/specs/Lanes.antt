-- What a slice tells of its numbers with a sign only once each was read: its type's range.
use Rattle.std.specs.Prelude.{◌≡◌, ℕ, ℤ, pos, negsuc, ◌^◌, Bool, true, List, nat_lt}
use Rattle.std.specs.List.{list_all}

-- n is at least -2 ^ bits and below 2 ^ bits
abbrev pub is_signed : ℕ → ℤ → Bool
is_signed bits (pos n) = nat_lt n (2 ^ bits)
is_signed bits (negsuc n) = nat_lt n (2 ^ bits)

-- each value passes the test of its type
abbrev pub AreOwn : {X : Type 0} → (X → Bool) → List X → Type 0
AreOwn own xs = list_all own xs ≡ true
