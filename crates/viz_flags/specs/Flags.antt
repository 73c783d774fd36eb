-- Flags, eight to a byte, and how many are set before each byte: bit vectors with ranks (Jacobson
-- 1989).
use Rattle.std.specs.Prelude.{ℕ, ◌*◌, ◌==◌, Bool, List, [], ◌∷◌, length, map}
use Rattle.std.specs.List.{flat_map, range_with_len}
use Rattle.std.specs.Int.{bit_at}
use Rattle.viz_sheet.specs.Kept.{kept_rank}

-- the eight flags of a byte, the lowest bit first
abbrev pub flags_of : ℕ → List Bool
flags_of mask = map (λ d. bit_at mask d == 1) (0 ∷ 1 ∷ 2 ∷ 3 ∷ 4 ∷ 5 ∷ 6 ∷ 7 ∷ [])

-- the flags of bytes
abbrev pub flags : List ℕ → List Bool
flags masks = flat_map flags_of masks

-- how many flags are set before each byte
abbrev pub starts : List ℕ → List ℕ
starts masks = map (λ i. kept_rank (flags masks) (8 * i)) (range_with_len 0 (length masks))

-- how many flags are set in all
abbrev pub set_in : List ℕ → ℕ
set_in masks = kept_rank (flags masks) (8 * length masks)
