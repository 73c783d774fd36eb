-- The rule of a turn, second group: who has the turn, and who waits for it, as in a ticket lock
-- (Mellor-Crummey and Scott 1991). It speaks of how many turns have ended, and of how each seat
-- stands to the turn.
-- `draw`, `look`, `rest` and `pass on` change this group; `split` adds a seat that waits for
-- nothing.
use Rattle.std.specs.Prelude.{◌≡◌, ℕ, ◌+◌, ◌%◌, ◌^◌, ◌<◌, ◌≤◌, List, [], ◌∷◌, Option, Some, None}
use Rattle.std.specs.Prelude.{true, false}
use mathlib.Core.Option.{some}
use lib.ListN.{get_elem?}
use Rattle.viz_turn.specs.declared.view.Standing.{Standing}

-- a number as a word of 64 bits has it
abbrev pub wrapped : ℕ → ℕ
wrapped n = n % 18446744073709551616

-- without a ticket
abbrev pub idle : Standing
idle = record { ticket = None; turn = false; out = false }

-- with this ticket, and waiting
abbrev pub at_ticket : ℕ → Standing
at_ticket t = record { ticket = Some t; turn = false; out = false }

-- with the turn, and the slot is out with it
abbrev pub in_turn : ℕ → Standing
in_turn t = record { ticket = Some t; turn = true; out = true }

-- with the turn, and the slot is home again
abbrev pub resting : ℕ → Standing
resting t = record { ticket = Some t; turn = true; out = false }

-- a ticket counts for one
abbrev pub waits : Option ℕ → ℕ
waits None = 0
waits (Some t) = 1

-- how many seats have a ticket
abbrev pub waiting : List Standing → ℕ
waiting [] = 0
waiting (q ∷ qs) = waits q.ticket + waiting qs

-- the slot is out with no seat
abbrev pub NoneOut : List Standing → Type 0
NoneOut qs = (i : ℕ) (q : Standing) → get_elem? qs i ≡ some q → q.out ≡ false

-- how all seats stand to the turn, where `served` turns have ended
pub record AreTurns (served : ℕ) (qs : List Standing) : Type 0 where
  -- tickets are the numbers from `served` on, as many as there are, and differ
  pub few : waiting qs < 2 ^ 64
  pub within : (i : ℕ) (q : Standing) → get_elem? qs i ≡ some q
      → (t : ℕ) → q.ticket ≡ Some t → (served ≤ t) × (t < served + waiting qs)
  pub apart : (i j : ℕ) (q r : Standing) → get_elem? qs i ≡ some q → get_elem? qs j ≡ some r
      → (t : ℕ) → q.ticket ≡ Some t → r.ticket ≡ Some t → i ≡ j
  -- who has the turn has the ticket `served`
  pub holder : (i : ℕ) (q : Standing) → get_elem? qs i ≡ some q → q.turn ≡ true
      → q.ticket ≡ Some served
  -- the slot is out only with who has the turn
  pub outs : (i : ℕ) (q : Standing) → get_elem? qs i ≡ some q → q.out ≡ true → q.turn ≡ true
