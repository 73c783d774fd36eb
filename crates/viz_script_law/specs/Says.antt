-- What the steps of a script are of an actor (docs/FORMATS-OF-SCRIPTS.md, "Scripts").
use Rattle.std.specs.Prelude.{ℕ, ◌==◌, List, [], ◌∷◌, if◌then◌else◌}
use Rattle.viz_script.specs.Orders.{Asked}
use Rattle.viz_script.specs.Script.{Stepped}

-- the commands of an actor among steps, each with its phase
abbrev pub commands_by : ℕ → List Stepped → List (ℕ × Asked)
commands_by actor [] = []
commands_by actor (step ∷ steps) = if step.actor == actor
    then (step.phase, step.asked) ∷ commands_by actor steps else commands_by actor steps
