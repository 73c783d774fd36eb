-- What the actors of a phase did, each at its place. Words of private contracts alone.
use Rattle.std.specs.Prelude.{◌≡◌, ℕ, zero, suc, ◌+◌, ◌<◌, ◌≤◌, true, false, List, [], ◌∷◌, ◌++◌}
use Rattle.std.specs.Prelude.{length, map, drop, Option, None, Some, IfSome, vec_capacity}
use Rattle.std.specs.Prelude.{slice_index_or}
use Rattle.viz_base.specs.declared.port.Port as port
use Rattle.viz_turn.specs.Tales.{has, once, clear, GoesOn}
use Rattle.viz_turn.specs.Known.{Identity}
use Rattle.viz_hub.specs.Passes.{PassKnown, numbers, elder, younger, one, IsWhole, GoesFurther}
use Rattle.viz_hub.specs.Passes.{IsFresh}
use Rattle.viz_entries.specs.declared.entry.Entry.{Entry}
use Rattle.viz_entries.specs.History.{by_of}
use Rattle.viz_script.specs.declared.order.Step.{Step}
use Rattle.viz_report.specs.declared.line.Line.{Line}
use Rattle.viz_report.specs.declared.line.Row.{Row}
use Rattle.viz_report.specs.Report.{rows_from, phase_rows}
use Rattle.viz_account.specs.Served.{ServesAll}
use Rattle.viz_actor.specs.Serving.{commands_of, AddsLines}
use Rattle.viz_actor.specs.Updating.{IsSamePass}
use Rattle.viz_actor.specs.declared.places.Place.{Place}

-- ---- room

-- the lines of a place are rows already, and there is room for those of its commands among these
-- steps
pub record HasRoom {P : Type 0} (steps : List Step) (actor : ℕ) (s : Place P) : Type 0 where
  pub settled : s.told ≡ length s.lines.items
  pub room : length s.lines.items + length (commands_of actor steps) ≤ vec_capacity s.lines

-- each place has room; the first one is of this actor
abbrev pub HaveRoom : {P : Type 0} → List Step → ℕ → List (Place P) → Type 0
HaveRoom steps actor [] = Unit {0}
HaveRoom steps actor (s ∷ ss) = HasRoom steps actor s × HaveRoom steps (actor + 1) ss

-- how many commands so many actors, from this one on, have among these steps
abbrev pub work : List Step → ℕ → ℕ → ℕ
work steps actor zero = 0
work steps actor (suc count) = length (commands_of actor steps) + work steps (actor + 1) count

-- ---- one phase: passes are split off

-- the place of this actor with a pass
abbrev pub with_pass : {P : Type 0} → Place P → ℕ → PassKnown → Place P
with_pass s actor p =
    record { actor = actor; pass = Some p; port = s.port; lines = s.lines; told = s.told }

-- each place gets a pass of its own, with a number of its own
abbrev pub Splits : {P : Type 0} → ℕ → PassKnown → List (Place P) → List (Place P) → PassKnown
    → Type 0
Splits actor root [] [] new = new ≡ root
Splits actor root (s ∷ ss) (t ∷ ts) new =
    (k : ℕ) × IsFresh k root × (t ≡ with_pass s actor (younger k root))
    × Splits (actor + 1) (elder k root) ss ts new
Splits actor root ss ts new = ⊥

-- ---- each actor works

-- a place with a pass of this hub, and room for the lines of its actor
pub record IsReady {P : Type 0} (hub : Identity) (steps : List Step) (s : Place P) : Type 0 where
  pub there : IfSome s.pass (λ p. p.turn ≡ hub)
  pub room : length s.lines.items + length (commands_of s.actor steps) ≤ vec_capacity s.lines

module _ {P : Type 0} (m : port.Ghosts P) (limit : ℕ) (steps : List Step) where
  -- the pass has seen more, and may have published, and the commands were served in between
  abbrev pub PassServed : Option PassKnown → Option PassKnown → Place P → Place P → Type 0
  PassServed (Some p) (Some q) s t =
      IsSamePass p q × AddsLines m limit p.number (commands_of s.actor steps)
      s.lines.items t.lines.items p.seen q.seen s.port t.port
  PassServed (Some p) None s t = ⊥
  PassServed None q s t = Unit {0}

  pub record PlaceServed (s t : Place P) : Type 0 where
    pub actor : t.actor ≡ s.actor
    pub told : t.told ≡ s.told
    pub capacity : vec_capacity t.lines ≡ vec_capacity s.lines
    pub served : PassServed s.pass t.pass s t

  abbrev pub EachServed : List (Place P) → List (Place P) → Type 0
  EachServed old new = (i : ℕ) (d : Place P) → i < length old
      → PlaceServed (slice_index_or old i d) (slice_index_or new i d)

-- ---- the passes are joined

-- the passes of the places, joined one after the other
abbrev pub Joins : {P : Type 0} → PassKnown → List (Place P) → PassKnown → Type 0
Joins root [] new = new ≡ root
Joins root (s ∷ ss) new =
    (p mid : PassKnown) × (s.pass ≡ Some p) × (mid ≡ one root p)
    × GoesFurther root mid.seen × GoesFurther p mid.seen × Joins mid ss new

-- a pass of this hub is there
abbrev pub HasPass : {P : Type 0} → Identity → Place P → Type 0
HasPass hub s = (p : PassKnown) × (s.pass ≡ Some p) × (p.turn ≡ hub)

-- the place without its pass
abbrev pub without : {P : Type 0} → Place P → Place P
without s = record { actor = s.actor; pass = None; port = s.port; lines = s.lines; told = s.told }

-- ---- new lines become rows

-- the rows of the lines that aren't rows yet
abbrev pub new_rows : {P : Type 0} → Place P → List Row
new_rows s = rows_from s.actor (s.told + 1) (drop s.told s.lines.items)

abbrev pub all_new_rows : {P : Type 0} → List (Place P) → List Row
all_new_rows [] = []
all_new_rows (s ∷ ss) = new_rows s ++ all_new_rows ss

-- how many lines aren't rows yet
abbrev pub untold : {P : Type 0} → List (Place P) → ℕ
untold [] = 0
untold (s ∷ ss) = length (drop s.told s.lines.items) + untold ss

-- the place all of whose lines are rows
abbrev pub collected : {P : Type 0} → Place P → Place P
collected s =
    record {
      actor = s.actor;
      pass = s.pass;
      port = s.port;
      lines = s.lines;
      told = length s.lines.items;
    }

-- no more lines are rows than there are
abbrev pub IsPlaceTold : {P : Type 0} → Place P → Type 0
IsPlaceTold s = s.told ≤ length s.lines.items

-- ---- the whole phase

-- what the actor of this number did, by a pass of number k, between what was joined before and
-- what is joined now
pub record ActorServed {P : Type 0} (m : port.Ghosts P) (limit : ℕ) (steps : List Step)
    (before joined : List Entry) (k actor : ℕ)
    (lines : List Line) (s t : Place P) : Type 0 where
  pub seen : List Entry
  pub added : t.lines.items ≡ s.lines.items ++ lines
  pub served : ServesAll m limit k (commands_of actor steps) lines before seen s.port t.port
  pub fresh : clear by_of (k ∷ []) before ≡ true
  pub further : GoesOn by_of (k ∷ []) seen joined
  pub capacity : vec_capacity t.lines ≡ vec_capacity s.lines
  pub told : t.told ≡ length t.lines.items

abbrev pub ActorsServed : {P : Type 0} → port.Ghosts P → ℕ → List Step
    → List Entry → List Entry → ℕ → List ℕ → List (List Line)
    → List (Place P) → List (Place P) → Type 0
ActorsServed m limit steps before joined actor [] [] [] [] = Unit {0}
ActorsServed m limit steps before joined actor (k ∷ ks) (ls ∷ lines) (s ∷ ss) (t ∷ ts) =
    ActorServed m limit steps before joined k actor ls s t
    × ActorsServed m limit steps before joined (actor + 1) ks lines ss ts
ActorsServed m limit steps before joined actor ks lines ss ts = ⊥

-- the numbers of the next lines of places
abbrev pub counts_of : {P : Type 0} → List (Place P) → List ℕ
counts_of ss = map (λ s. length s.lines.items + 1) ss

-- a phase: each place had a pass of its own, with these numbers, and the new lines became rows
pub record IsPhase {P : Type 0} (m : port.Ghosts P) (limit : ℕ) (steps : List Step)
    (root : PassKnown) (old : List (Place P)) (rows : List Row)
    (new : List (Place P)) (rows_now : List Row) (joined : PassKnown) : Type 0 where
  pub passes : List ℕ
  pub lines : List (List Line)
  pub turn : joined.turn ≡ root.turn
  pub number : joined.number ≡ root.number
  pub ended : joined.ended ≡ root.ended ++ passes
  pub later : GoesFurther root joined.seen
  pub whole : IsWhole root → IsWhole joined
  pub distinct : once passes ≡ true
  pub fresh : (x : ℕ) → has x passes ≡ true → has x (numbers root) ≡ false
  pub actors : ActorsServed m limit steps root.seen joined.seen 1 passes lines old new
  pub rows_are : rows_now ≡ rows ++ phase_rows 1 (counts_of old) lines
