use Rattle.std.proofs.Common.{◌≡◌, map, flat_map}
use Rattle.viz_script.specs.Script.{stepped}
use Rattle.viz_script.specs.Steps.Parser.{step_in}
use Rattle.viz_script.proofs.parser.steps_in.Given as goal

-- the steps so far are those that have an order
abbrev pub invariant-loop-step : goal.invariant-loop-step
invariant-loop-step l = map stepped l.steps.items ≡ flat_map step_in l.yielded
