-- What a pass of a turn knows, and what the calls make of it (docs/ARCHITECTURE.md, "A turn").
use Rattle.std.specs.Prelude.{◌≡◌, ℕ, List, [], ◌∷◌, ◌++◌, true, false}
use Rattle.atomic_table.specs.Seated.{TableId}
use Rattle.viz_turn.specs.Tales.{has, IsWholeBy, longer, clear, GoesOn}

-- which turn it is, and the mark of each of its states
pub record Identity : Type 0 where
  pub which : TableId
  pub mark : ℕ

-- the turn that a pass belongs to, its number, the numbers of passes joined into it and of those
-- split off from it or from these, and the tale as far as it knows it
pub record Known (E : Type 0) : Type 0 where
  pub turn : Identity
  pub number : ℕ
  pub ended : List ℕ
  pub born : List ℕ
  pub seen : List E

module _ {E : Type 0} where
  -- its number and its ended ones
  abbrev pub numbers : Known E → List ℕ
  numbers p = p.number ∷ p.ended

  -- all passes were joined into it
  abbrev pub IsWhole : Known E → Type 0
  IsWhole p = IsWholeBy (numbers p) p.born

  -- the first pass of a turn
  abbrev pub first_pass : Identity → Known E
  first_pass t = record { turn = t; number = 0; ended = []; born = []; seen = [] }

  -- the same pass, which knows this tale
  abbrev pub at_seen : Known E → List E → Known E
  at_seen p tale =
      record { turn = p.turn; number = p.number; ended = p.ended; born = p.born; seen = tale }

  -- the pass from which the number n was split off
  abbrev pub elder : ℕ → Known E → Known E
  elder n p =
      record { turn = p.turn; number = p.number; ended = p.ended; born = n ∷ p.born; seen = p.seen }

  -- the pass that was split off with the number n
  abbrev pub younger : ℕ → Known E → Known E
  younger n p = record { turn = p.turn; number = n; ended = []; born = []; seen = p.seen }

  -- the pass of two, which keeps the number of the first
  abbrev pub one : Known E → Known E → Known E
  one p q =
      record {
        turn = p.turn;
        number = p.number;
        ended = p.ended ++ numbers q;
        born = p.born ++ q.born;
        seen = longer p.seen q.seen;
      }

module _ {E : Type 0} (by : E → ℕ) where
  -- the tale goes further than the pass knows it, without an entry of its numbers
  abbrev pub GoesFurther : Known E → List E → Type 0
  GoesFurther p tale = GoesOn by (numbers p) p.seen tale

  -- the tale is what the pass knows, and one entry of its number
  abbrev pub AddsOne : Known E → List E → Type 0
  AddsOne p tale = (e : E) × (tale ≡ p.seen ++ e ∷ []) × (by e ≡ p.number)

  -- no number of the pass, none that was split off, and no entry that it knows is this
  pub record IsFresh (n : ℕ) (p : Known E) : Type 0 where
    pub own : has n (numbers p) ≡ false
    pub born : has n p.born ≡ false
    pub entries : clear by (n ∷ []) p.seen ≡ true
