-- The lines of a script (docs/FORMATS-OF-SCRIPTS.md, "Scripts").
use Rattle.std.specs.Prelude.{ℕ, suc, Bool, false, ◌&&◌, ◌||◌, ◌==◌, nat_le, List, [], ◌∷◌, Option}
use Rattle.std.specs.Prelude.{None, Some, option_map, if◌then◌else◌}
use Rattle.std.specs.List.{list_all}

-- the place of the first newline
abbrev pub line_len : List ℕ → Option ℕ
line_len [] = None
line_len (b ∷ bs) = if b == 10 then Some 0 else option_map suc (line_len bs)

-- a newline stands in front
abbrev pub begins_newline : List ℕ → Bool
begins_newline [] = false
begins_newline (b ∷ bs) = b == 10

-- a byte in front of the first part
abbrev pub in_front : ℕ → List (List ℕ) → List (List ℕ)
in_front b [] = (b ∷ []) ∷ []
in_front b (part ∷ parts) = (b ∷ part) ∷ parts

-- the lines without their newlines, which the last may lack; a carriage return before a newline is
-- dropped
abbrev pub lines_of : List ℕ → List (List ℕ)
lines_of [] = []
lines_of (b ∷ bs) = if b == 10 then [] ∷ lines_of bs
    else (if b == 13 && begins_newline bs then lines_of bs else in_front b (lines_of bs))

-- a tab, or a byte from space to ~
abbrev pub is_plain_byte : ℕ → Bool
is_plain_byte b = b == 9 || nat_le 32 b && nat_le b 126

-- each byte may stand in a script
abbrev pub is_plain : List ℕ → Bool
is_plain line = list_all is_plain_byte line
