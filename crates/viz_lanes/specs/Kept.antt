-- How a bit plane is kept: in words of 64, the lowest bit first.
use Rattle.std.specs.Prelude.{◌==◌, ℕ, zero, suc, ◌/◌, ◌%◌, Bool, List, [], ◌∷◌, ◌++◌}
use Rattle.std.specs.List.{flat_map}

-- the lowest n bits of a word, the lowest first
abbrev pub low_bits : ℕ → ℕ → List Bool
low_bits zero x = []
low_bits (suc n) x = (x % 2 == 1) ∷ low_bits n (x / 2)

-- the bits of words of 64, and after them the lowest bits of one more
abbrev pub bits_of : List ℕ → ℕ → ℕ → List Bool
bits_of words used last = flat_map (λ x. low_bits 64 x) words ++ low_bits used last
