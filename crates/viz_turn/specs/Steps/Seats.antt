-- The seat of a pass between its calls, and within them.
use Rattle.std.specs.Prelude.{◌≡◌, ℕ, [], ◌∷◌, Option, None, true}
use Rattle.atomic_table.specs.Table.{Me}
use Rattle.viz_turn.specs.declared.view.View.{View}
use Rattle.viz_turn.specs.Steps.Turns.{idle, at_ticket, in_turn, resting}
use Rattle.viz_turn.specs.Steps.Kinds.{view, with_spare, or_zero}

-- the pass has the turn, and the slot is home
pub record IsResting {E : Type 0} (t : ℕ) (v : View E) : Type 0 where
  pub claims : v.claims ≡ []
  pub standing : v.standing ≡ resting t

module _ {S E : Type 0} where
  -- a pass: no claims, no spare number, no ticket, and no slot is out with it
  pub record IsAtRest (m : Me S (View E)) : Type 0 where
    pub slots : m.1 ≡ []
    pub claims : m.0.claims ≡ []
    pub live : m.0.numbers.live ≡ true
    pub spare : m.0.numbers.spare ≡ None
    pub standing : m.0.standing ≡ idle

  -- a pass that waits with this ticket
  pub record IsWaiting (t : ℕ) (m : Me S (View E)) : Type 0 where
    pub slots : m.1 ≡ []
    pub claims : m.0.claims ≡ []
    pub live : m.0.numbers.live ≡ true
    pub standing : m.0.standing ≡ at_ticket t

  -- a held state: the pass has the turn, and the slot is out with it and empty
  pub record IsInTurn (m : Me (Option S) (View E)) : Type 0 where
    pub slots : m.1 ≡ (0, None) ∷ []
    pub claims : m.0.claims ≡ []
    pub live : m.0.numbers.live ≡ true
    pub spare : m.0.numbers.spare ≡ None
    pub standing : m.0.standing ≡ in_turn (or_zero m.0.standing.ticket)

  -- the seat has the spare number n, and is else as before
  abbrev pub HasSpare : ℕ → Me S (View E) → Me S (View E) → Type 0
  HasSpare n old new = (new.1 ≡ old.1)
      × (new.0 ≡ view (with_spare n old.0.numbers) old.0.standing old.0.mark old.0.seen)
