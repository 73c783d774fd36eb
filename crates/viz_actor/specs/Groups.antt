-- The commands of a script by actor and phase (docs/FORMATS-OF-SCRIPTS.md, "Scripts").
use Rattle.std.specs.Prelude.{ℕ, zero, suc, ◌+◌, Bool, ◌==◌, ◌&&◌, min, List, [], ◌∷◌, length, map}
use Rattle.std.specs.Prelude.{cond}
use Rattle.viz_script.specs.declared.order.Step.{Step}
use Rattle.viz_script.specs.Orders.{Asked}
use Rattle.viz_script.specs.Script.{Stepped}

-- how many actors a script may have over these ports: 8, or as many as there are ports
abbrev pub actors_over : {P : Type 0} → List P → ℕ
actors_over ports = min 8 (length ports)

-- the most entries of the history of a script
abbrev pub history_limit : ℕ
history_limit = 65536

-- so many numbers, from this one on
abbrev pub numbers : ℕ → ℕ → List ℕ
numbers zero n = []
numbers (suc count) n = n ∷ numbers count (n + 1)

-- whether a step is of this actor, in this phase
abbrev pub is_of : ℕ → ℕ → Stepped → Bool
is_of actor phase s = (s.actor == actor) && (s.phase == phase)

-- the commands of an actor in a phase, in order
abbrev pub commands_in : List Stepped → ℕ → ℕ → List Asked
commands_in [] actor phase = []
commands_in (s ∷ steps) actor phase = cond (is_of actor phase s)
    (s.asked ∷ commands_in steps actor phase) (commands_in steps actor phase)

-- the commands of an actor by phase, where there are so many phases
abbrev pub by_phase : ℕ → List Stepped → ℕ → List (List Asked)
by_phase phases steps actor = map (commands_in steps actor) (numbers phases 1)

-- the commands of a script by actor and phase, where there are so many actors
abbrev pub by_actor : ℕ → ℕ → List Stepped → List (List (List Asked))
by_actor actors phases steps = map (by_phase phases steps) (numbers actors 1)

-- ---- phases of steps

-- the steps in front that are of a phase
abbrev pub in_front : ℕ → List Step → List Step
in_front phase [] = []
in_front phase (s ∷ steps) = cond (s.phase == phase) (s ∷ in_front phase steps) []

-- the steps behind them
abbrev pub behind : ℕ → List Step → List Step
behind phase [] = []
behind phase (s ∷ steps) = cond (s.phase == phase) (behind phase steps) (s ∷ steps)

-- the steps of so many phases, from this one on
abbrev pub chunks_from : ℕ → ℕ → List Step → List (List Step)
chunks_from zero phase steps = []
chunks_from (suc count) phase steps = in_front phase steps ∷ chunks_from count (phase + 1)
    (behind phase steps)
