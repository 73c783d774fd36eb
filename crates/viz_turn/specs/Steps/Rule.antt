-- The rule of a turn: its three groups, over four words, one slot and the views of all seats.
use Rattle.std.specs.Prelude.{◌≡◌, ℕ, ◌+◌, List, [], ◌∷◌, map, length, Option, Some}
use mathlib.Core.Option.{some}
use mathlib.Core.Option as maybe
use lib.ListN.{get_elem?}
use Rattle.atomic_table.specs.Table.{State}
use Rattle.viz_turn.specs.declared.view.Numbers.{Numbers}
use Rattle.viz_turn.specs.declared.view.Standing.{Standing}
use Rattle.viz_turn.specs.declared.view.View.{View}
use Rattle.viz_turn.specs.Steps.Numbers.{AreNumbers}
use Rattle.viz_turn.specs.Steps.Turns.{wrapped, waiting, NoneOut, AreTurns}
use Rattle.viz_turn.specs.Steps.Lists.{AreLists}

-- the numbers of a view
abbrev pub numbers_of : {E : Type 0} → View E → Numbers
numbers_of v = v.numbers

-- how a view stands to the turn
abbrev pub standing_of : {E : Type 0} → View E → Standing
standing_of v = v.standing

-- tale, by, mark: what a state tells
module _ {S E : Type 0} (tale : S → List E) (by : E → ℕ) (mark : S → ℕ) where
  -- the slot has a state with this tale and this mark
  abbrev pub IsHome : ℕ → List E → List (maybe.Option (Option S)) → Type 0
  IsHome m told homes = (s : S) × (get_elem? homes 0 ≡ some (some (Some s))) × (tale s ≡ told)
      × (mark s ≡ m)

  -- the words are the length of the tale, the next ticket, the ticket that is served and the next
  -- number; while the slot is out with no seat, the state is home
  pub record IsRuled (m : ℕ) (s : State (Option S) (View E)) : Type 0 where
    pub told : List E
    pub served : ℕ
    pub made : ℕ
    pub words_are : s.words ≡ length told ∷ wrapped
        (served + waiting (map standing_of s.views)) ∷ wrapped served ∷ made ∷ []
    pub numbers : AreNumbers made (map numbers_of s.views)
    pub turns : AreTurns served (map standing_of s.views)
    pub home : NoneOut (map standing_of s.views) → IsHome m told s.homes
    pub lists : AreLists by m told s.views
