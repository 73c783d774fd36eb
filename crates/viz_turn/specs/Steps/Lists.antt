-- The rule of a turn, third group: the lists. It speaks of the tale, the longest list, and of what
-- seats know of it.
-- `append` makes the tale longer; `look` shows it whole; `split` and `join` hand on what was known.
use Rattle.std.specs.Prelude.{◌≡◌, ℕ, List, [], ◌∷◌, None, true, false}
use mathlib.Core.Option.{some}
use lib.ListN.{get_elem?}
use Rattle.viz_turn.specs.declared.view.Claim.{Claim}
use Rattle.viz_turn.specs.declared.view.View.{View}
use Rattle.viz_turn.specs.Tales.{has, GoesOn}
use Rattle.viz_turn.specs.Steps.Numbers.{own_numbers}

-- by: the number of the pass that made an entry
module _ {E : Type 0} (by : E → ℕ) where
  -- each claim is true of the list: it goes on after what was seen, without an entry of the numbers
  abbrev pub AreTrueOf : List (Claim E) → List E → Type 0
  AreTrueOf [] seen = Unit {0}
  AreTrueOf (c ∷ cs) seen = GoesOn by c.numbers c.seen seen × AreTrueOf cs seen

  -- what one seat knows, beside this tale and this mark
  pub record IsView (m : ℕ) (tale : List E) (v : View E) : Type 0 where
    pub marked : v.numbers.live ≡ true → v.mark ≡ m
    -- its list is a prefix of the tale, and has all entries of its numbers
    pub known : v.numbers.live ≡ true → GoesOn by (own_numbers v.numbers) v.seen tale
    pub claimed : AreTrueOf v.claims v.seen
    -- who has the turn knows the whole tale
    pub longest : v.standing.turn ≡ true → v.seen ≡ tale
    pub spent : v.numbers.live ≡ false → v.standing.ticket ≡ None

  -- what all seats know
  pub record AreLists (m : ℕ) (tale : List E) (vs : List (View E)) : Type 0 where
    pub each : (i : ℕ) (v : View E) → get_elem? vs i ≡ some v → IsView m tale v
    -- each entry has the number of a live seat
    pub named : (k : ℕ) (e : E) → get_elem? tale k ≡ some e
        → (i : ℕ) × (v : View E) × (get_elem? vs i ≡ some v) × (v.numbers.live ≡ true)
        × (has (by e) (own_numbers v.numbers) ≡ true)
