use Rattle.std.proofs.Common.{◌≡◌, ◌≤◌, take, length}
use Rattle.viz_actor.specs.Serving.{commands_of}
use Rattle.viz_actor.proofs.seating.command_count.Given as goal

-- the actor's steps so far
abbrev pub invariant-loop-step : goal.invariant-loop-step
invariant-loop-step l =
    record {
      count : l.count ≡ length (commands_of l.actor (take l.step-index l.steps));
      bound : l.count ≤ l.step-index;
    }
