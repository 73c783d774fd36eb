-- What an update writes: the file of a node, with the numbers that its line tells
-- (docs/FORMATS.md, "Report").
use Rattle.std.specs.Prelude.{◌≡◌, ℕ, List, length, Ok}
use Rattle.viz_inform.specs.Informed.{AreTold}
use Rattle.viz_inform.specs.declared.told.Told.{Told}
use Rattle.viz_kept.specs.True.{AreTrueIn}
use Rattle.viz_network.specs.Network.{Network}
use Rattle.viz_parts.specs.declared.stored.Stored.{Stored}
use Rattle.viz_plan.specs.Told.{extent_told, known_with}
use Rattle.viz_plan_meaning.specs.Laws.{plan_of}
use Rattle.viz_requests.specs.Shapes.{requests_of}
use Rattle.viz_scratch.specs.Written.{IsFileOf, HasCounts}

-- the file of a node is this text, of so many cells and points
pub record IsWritten (net : Network) (id : ℕ) (text : List ℕ) (cells points : ℕ) : Type 0 where
  pub file : IsFileOf net id (Ok text)
  pub counts : HasCounts net id cells points

-- so many tasks has the plan of an update of the sink in so many pieces, by what is told of the
-- network and some entries that are true in it
pub record HasRan (net : Network) (pieces sink ran : ℕ) : Type 0 where
  pub entries : List Stored
  pub told : List Told
  pub kept : AreTrueIn net entries
  pub are : AreTold net sink told
  pub number : ran
      ≡ length (plan_of (known_with net told entries) sink
      (requests_of (extent_told told sink) pieces))

-- no task of a plan ran, since there is none
abbrev pub HasNoPlan : ℕ → ℕ → Type 0
HasNoPlan sink ran = ran ≡ 0
