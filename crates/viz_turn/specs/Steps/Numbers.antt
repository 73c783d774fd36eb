-- The rule of a turn, first group: the numbers of passes. It speaks of the next number, and of
-- each seat's numbers.
-- `draw`, `look`, `append` and `pass on` leave this group as it is; `number`, `split` and `join`
-- change it.
use Rattle.std.specs.Prelude.{◌≡◌, ℕ, ◌+◌, ◌^◌, ◌<◌, ◌≤◌, List, [], ◌∷◌, ◌++◌, Option, Some, None}
use Rattle.std.specs.Prelude.{Bool, true, false}
use mathlib.Core.Option.{some}
use lib.ListN.{get_elem?}
use Rattle.viz_turn.specs.declared.view.Numbers.{Numbers}
use Rattle.viz_turn.specs.Tales.{has, once}

-- a number that was drawn and not yet given to a pass
abbrev pub spares : Option ℕ → List ℕ
spares None = []
spares (Some n) = n ∷ []

-- the number of a pass and its ended ones
abbrev pub own_numbers : Numbers → List ℕ
own_numbers w = w.number ∷ w.ended

-- these and the spare one
abbrev pub all_numbers : Numbers → List ℕ
all_numbers w = spares w.spare ++ own_numbers w

-- how many numbers below the next one are this seat's alone
abbrev pub needs_of : Bool → Option ℕ → ℕ
needs_of false s = 0
needs_of true None = 1
needs_of true (Some n) = 2

-- the same of all seats
abbrev pub needs : List Numbers → ℕ
needs [] = 0
needs (w ∷ ws) = needs_of w.live w.spare + needs ws

-- the seat i is a live pass with these numbers; a pass that was dropped is live, one that was
-- joined into another isn't
abbrev pub Live : List Numbers → ℕ → Numbers → Type 0
Live ws i w = (get_elem? ws i ≡ some w) × (w.live ≡ true)

-- a seat's spare number is above its own and those split off from it, and none of its ended ones
pub record IsSpare (w : Numbers) (n : ℕ) : Type 0 where
  pub above : w.number < n
  pub new : has n w.ended ≡ false
  pub latest : (x : ℕ) → has x w.born ≡ true → x < n

-- the number m was split off from a live pass with a lesser number
pub record IsBorn (ws : List Numbers) (m : ℕ) : Type 0 where
  pub seat : ℕ
  pub parent : Numbers
  pub lesser : ℕ
  pub live : Live ws seat parent
  pub born : has m parent.born ≡ true
  pub own : has lesser (own_numbers parent) ≡ true
  pub less : lesser < m

-- the numbers of all seats, where the next number is `made`
pub record AreNumbers (made : ℕ) (ws : List Numbers) : Type 0 where
  -- each number is below the next one
  pub below : (i : ℕ) (w : Numbers) → Live ws i w → (x : ℕ) → has x (all_numbers w) ≡ true
      → x < made
  pub born_below : (i : ℕ) (w : Numbers) → Live ws i w → (x : ℕ) → has x w.born ≡ true → x < made
  -- no two seats share one, and no seat has one twice
  pub apart : (i j : ℕ) (v w : Numbers) → Live ws i v → Live ws j w
      → (x : ℕ) → has x (all_numbers v) ≡ true → has x (all_numbers w) ≡ true → i ≡ j
  pub distinct : (i : ℕ) (w : Numbers) → Live ws i w → once (all_numbers w) ≡ true
  -- a spare number is a new one
  pub spare : (i : ℕ) (w : Numbers) → Live ws i w → (n : ℕ) → w.spare ≡ Some n → IsSpare w n
  -- each number but 0 was split off from a pass with a lesser one
  pub chain : (i : ℕ) (w : Numbers) → Live ws i w → (m : ℕ) → has m (own_numbers w) ≡ true → 0 < m
      → IsBorn ws m
  -- so many passes have numbers of their own
  pub room : needs ws ≤ made
  pub small : made < 2 ^ 64
