-- What each kind of step does to the view of its seat. `number` and `split`, `join` and `learn`
-- come in pairs. A turn is `draw`, `look`, `append` and `pass on`; the last one ends by `rest`.
use Rattle.std.specs.Prelude.{◌≡◌, ◌≢◌, ◌⊎◌, ℕ, List, [], ◌∷◌, ◌++◌, Option, Some, None, true}
use Rattle.std.specs.Prelude.{false, ◌==◌, MatchBool}
use Rattle.atomic_table.specs.Table.{Me, Step}
use Rattle.viz_turn.specs.declared.view.Numbers.{Numbers}
use Rattle.viz_turn.specs.declared.view.Standing.{Standing}
use Rattle.viz_turn.specs.declared.view.Claim.{Claim}
use Rattle.viz_turn.specs.declared.view.View.{View}
use Rattle.viz_turn.specs.Tales.{has, once, clear, IsWholeBy, longer, GoesOn, HasNoOther}
use Rattle.viz_turn.specs.Steps.Numbers.{own_numbers}
use Rattle.viz_turn.specs.Steps.Turns.{wrapped, idle, at_ticket, in_turn, resting}
use Rattle.viz_turn.specs.Steps.Lists.{AreTrueOf}

-- a view without claims
abbrev pub view : {E : Type 0} → Numbers → Standing → ℕ → List E → View E
view w q m seen = record { numbers = w; standing = q; mark = m; seen = seen; claims = [] }

-- the numbers of a live pass
abbrev pub of_pass : ℕ → Option ℕ → List ℕ → List ℕ → Numbers
of_pass n s ended born = record { live = true; number = n; spare = s; ended = ended; born = born }

-- with this spare number
abbrev pub with_spare : ℕ → Numbers → Numbers
with_spare n w = of_pass w.number (Some n) w.ended w.born

-- those of a seat that was joined into another
abbrev pub of_none : Numbers
of_none = record { live = false; number = 0; spare = None; ended = []; born = [] }

-- the first pass
abbrev pub first_view : {E : Type 0} → ℕ → View E
first_view m = view (of_pass 0 None [] []) idle m []

-- a seat that was joined into another
abbrev pub spent_view : {E : Type 0} → View E
spent_view = view of_none idle 0 []

abbrev pub or_zero : Option ℕ → ℕ
or_zero None = 0
or_zero (Some n) = n

-- split: the spare number goes to a new seat
abbrev pub elder_view : {E : Type 0} → View E → View E
elder_view v = let w = v.numbers in view (of_pass w.number None w.ended
    (or_zero w.spare ∷ w.born)) v.standing v.mark v.seen

abbrev pub younger_view : {E : Type 0} → View E → View E
younger_view v = view (of_pass (or_zero v.numbers.spare) None [] []) idle v.mark v.seen

-- join: the numbers of both, the longer list, and what each had seen as a claim
abbrev pub one_of : Numbers → Numbers → Numbers
one_of v w = of_pass v.number v.spare (v.ended ++ own_numbers w) (v.born ++ w.born)

abbrev pub claim : {E : Type 0} → View E → Claim E
claim v = record { numbers = own_numbers v.numbers; seen = v.seen }

abbrev pub joined : {E : Type 0} → View E → View E → View E
joined v w =
    record {
      numbers = one_of v.numbers w.numbers;
      standing = v.standing;
      mark = v.mark;
      seen = longer v.seen w.seen;
      claims = claim v ∷ claim w ∷ [];
    }

-- m and n: the seat before and after, its view and the slots that are out with it; r: the word
-- that was found
module _ {T E : Type 0} where
  -- draw: the seat has the ticket that was found
  abbrev pub drew : Me T (View E) → ℕ → Me T (View E) → Type 0
  drew m r n = (n.1 ≡ m.1) × ((t : ℕ) × (r ≡ wrapped t)
      × (n.0 ≡ view m.0.numbers (at_ticket t) m.0.mark m.0.seen))

  -- append: the list is this tale
  abbrev pub appended : List E → Me T (View E) → Me T (View E) → Type 0
  appended tale m n = (n.1 ≡ m.1) × (n.0 ≡ view m.0.numbers m.0.standing m.0.mark tale)

  -- pass on: the slot comes home, and ticket and turn are given up
  abbrev pub passed : Me T (View E) → Me T (View E) → Type 0
  passed m n = (n.1 ≡ []) × (n.0 ≡ view m.0.numbers idle m.0.mark m.0.seen)

  -- rest: the slot comes home, and the turn is kept
  abbrev pub rested : Me T (View E) → Me T (View E) → Type 0
  rested m n = (n.1 ≡ [])
      × (n.0 ≡ view m.0.numbers (resting (or_zero m.0.standing.ticket)) m.0.mark m.0.seen)

module _ {E : Type 0} (by : E → ℕ) where
  -- no number of the seat, and no entry of its list, is n
  pub record IsNew (n : ℕ) (v : View E) : Type 0 where
    pub own : has n (own_numbers v.numbers) ≡ false
    pub born : has n v.numbers.born ≡ false
    pub entries : clear by (n ∷ []) v.seen ≡ true

  -- number: where the word was the one expected, it is the seat's spare number, which is new; else
  -- nothing changes
  abbrev pub numbered : {T : Type 0} → Step T → Me T (View E) → ℕ → Me T (View E) → Type 0
  numbered s m r n = (n.1 ≡ m.1) × MatchBool (r == s.first)
      ((n.0 ≡ view (with_spare r m.0.numbers) m.0.standing m.0.mark m.0.seen) × IsNew r m.0)
      (n.0 ≡ m.0)

  -- learn: the claims are true, and are dropped
  abbrev pub learned : {T : Type 0} → Me T (View E) → Me T (View E) → Type 0
  learned m n = (n.1 ≡ m.1) × (n.0 ≡ view m.0.numbers m.0.standing m.0.mark m.0.seen)
      × AreTrueOf by m.0.claims m.0.seen

  -- what a seat with these numbers, which had seen this list, learns of the whole tale
  pub record Learns (w : Numbers) (seen tale : List E) : Type 0 where
    pub further : GoesOn by (own_numbers w) seen tale
    pub whole : IsWholeBy (own_numbers w) w.born → HasNoOther by (own_numbers w) tale
    pub distinct : once (own_numbers w) ≡ true

module _ {S E : Type 0} (tale : S → List E) (by : E → ℕ) (mark : S → ℕ) where
  -- the seat has the turn and the slot with the state, and its list is the whole tale
  pub record Got (m n : Me (Option S) (View E)) : Type 0 where
    pub ticket : ℕ
    pub state : S
    pub drawn : m.0.standing ≡ at_ticket ticket
    pub view_is : n.0 ≡ view m.0.numbers (in_turn ticket) m.0.mark (tale state)
    pub slot_is : n.1 ≡ (0, Some state) ∷ []
    pub marked : mark state ≡ m.0.mark
    pub learns : Learns by m.0.numbers m.0.seen (tale state)

  -- look: where the word is the seat's ticket, the slot goes out to the seat; else nothing changes
  abbrev pub looked : Me (Option S) (View E) → ℕ → Me (Option S) (View E) → Type 0
  looked m r n = let t = wrapped (or_zero m.0.standing.ticket) in (Got m n × (r ≡ t))
      ⊎ ((n ≡ m) × (r ≢ t))
