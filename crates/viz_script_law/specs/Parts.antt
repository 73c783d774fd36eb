-- What the lines of an actor are made of: commands, and whole batches (docs/FORMATS-OF-SCRIPTS.md,
-- "Scripts").
use Rattle.std.specs.Prelude.{◌≡◌, ℕ, ◌+◌, Bool, true, false, ◌==◌, List, [], ◌∷◌, ◌++◌, map, filter}
use Rattle.std.specs.Prelude.{flat_map}
use Rattle.std.specs.List.{AllByRecursion}
use Rattle.viz_network.specs.declared.edit.Edit.{Edit}
use Rattle.viz_batches.specs.Batches.{IsBatch}
use Rattle.viz_script.specs.Orders.{Asked, edit, edits}
use Rattle.viz_script.specs.Lines.{Line, silent, begins_phase, begins_batch, ends_batch, asks}

-- a line that begins a phase, a line with a command, or the lines of a batch
pub data Part : Type 0 where
  phase : Part
  command : Asked → Part
  batch : List Edit → Part

-- the lines of a part of an actor: those of a batch are its edits, from `begin` to `end`
abbrev pub part_lines : ℕ → Part → List Line
part_lines actor phase = begins_phase ∷ []
part_lines actor (command asked) = asks actor asked ∷ []
part_lines actor (batch es) = begins_batch actor ∷ (map (λ e. asks actor (edit e)) es
    ++ ends_batch actor ∷ [])

-- a batch has 1 to 64 edits
abbrev pub FitsPart : Part → Type 0
FitsPart (batch es) = IsBatch es
FitsPart _ = Unit {0}

-- the line is one of this actor, or begins a phase
abbrev pub is_own : ℕ → Line → Bool
is_own actor silent = false
is_own actor begins_phase = true
is_own actor (begins_batch a) = a == actor
is_own actor (ends_batch a) = a == actor
is_own actor (asks a asked) = a == actor

-- the lines of an actor, with those that begin phases, are such parts, one after the other: so other
-- actors' lines may stand in a batch, and no phase begins in it
pub record IsInParts (actor : ℕ) (lines : List Line) : Type 0 where
  pub parts : List Part
  pub are : filter (is_own actor) lines ≡ flat_map (part_lines actor) parts
  pub fit : AllByRecursion FitsPart parts

-- the commands of parts, each with its phase, where the first stands in this one: a batch is one
abbrev pub commands_in : ℕ → List Part → List (ℕ × Asked)
commands_in p [] = []
commands_in p (phase ∷ parts) = commands_in (p + 1) parts
commands_in p (command asked ∷ parts) = (p, asked) ∷ commands_in p parts
commands_in p (batch es ∷ parts) = (p, edits es) ∷ commands_in p parts
