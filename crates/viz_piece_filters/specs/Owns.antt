-- Own positions of all pieces: of sheets shared out in turn, and of what a filter makes.
use Rattle.std.specs.Prelude.{ℕ, ◌<◌, Bool, List, length, map}
use Rattle.std.specs.List.{range_with_len, sum}
use Rattle.viz_parts.specs.Pieces.{AreAll, own_share}
use Rattle.viz_piece_filters.specs.HandedOn.{handed_on}

-- shares in turn are all positions
abbrev pub SharesAreAll : Type 0
SharesAreAll =
    (n count : ℕ) → 0 < n → AreAll count (map (λ p. own_share p n count) (range_with_len 0 n))

-- where own positions are all positions, what is handed on of them is all positions of what is made
abbrev pub OwnsHandOn : Type 0
OwnsHandOn =
    (counts : List ℕ) (owns : List (List Bool)) → AreAll (length counts) owns
    → AreAll (sum counts) (map (λ own. handed_on own counts) owns)
