-- One ghost level more: the cells that share a name with those that are there.
use Rattle.std.specs.Prelude.{◌≡◌, ℕ, ◌+◌, Bool, true, cond, Option, Some, None}
use Rattle.std.specs.Prelude.{List, map, Contains}
use Rattle.viz_mesh_meaning.specs.Cells.{Cell}
use Rattle.viz_parts.specs.Seen.{Seen, Meet, AreSeen, seen_as}

-- a cell that isn't there comes in where it is touched
abbrev pub grown_level : Bool → ℕ → Option ℕ → Option ℕ
grown_level touched next (Some l) = Some l
grown_level touched next None = cond touched (Some next) None

abbrev pub grown_seen : (Cell → Bool) → ℕ → List Seen → List Seen
grown_seen touched next seen =
    map (λ s. seen_as s.own (grown_level (touched s.cell) next s.level) s.cell) seen

-- each cell that shares a name with one that is there is touched
abbrev pub AreTouched : (Cell → Bool) → List Seen → Type 0
AreTouched touched seen =
    (s t : Seen) (l : ℕ) → Contains seen s → Contains seen t → s.level ≡ Some l → Meet s.cell t.cell
    → touched t.cell ≡ true

-- a part grows to one with one ghost level more
abbrev pub PartsGrow : Type 0
PartsGrow =
    (touched : Cell → Bool) (ghosts : ℕ) (seen : List Seen) → AreTouched touched seen
    → AreSeen ghosts seen → AreSeen (ghosts + 1) (grown_seen touched (ghosts + 1) seen)

-- own cells alone are a part without ghosts
abbrev pub own_seen : List Seen → List Seen
own_seen seen = map (λ s. seen_as s.own (cond s.own (Some 0) None) s.cell) seen

abbrev pub PartsStart : Type 0
PartsStart = (seen : List Seen) → AreSeen 0 (own_seen seen)
