use Rattle.std.proofs.Common.{◌≡◌, take, vec_capacity}
use Rattle.viz_actor.specs.Serving.{commands_of, AddsLines}
use Rattle.viz_actor.specs.Updating.{IsSamePass}
use Rattle.viz_actor.proofs.serving.serve_steps.Given as goal

-- the lines of the steps so far, and room for the others
abbrev pub invariant-loop-step : goal.invariant-loop-step
invariant-loop-step g l =
    record {
      adds : AddsLines g.P.Port l.hub.mark l.initial.pass.number (commands_of l.actor (take l.step-index l.steps)) l.fn.lines.items l.lines.items l.initial.pass.seen l.pass.seen l.fn.port l.port;
      same : IsSamePass l.initial.pass l.pass;
      capacity : vec_capacity l.lines ≡ vec_capacity l.fn.lines;
    }
