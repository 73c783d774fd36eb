use Rattle.std.proofs.Common.{◌≡◌, vec_capacity}
use Rattle.viz_actor.specs.Runs.{ports_of}
use Rattle.viz_actor.proofs.seating.unseat.Given as goal

abbrev pub invariant-loop-place : goal.invariant-loop-place
invariant-loop-place g l =
    record {
      ports : l.ports.items ≡ ports_of l.yielded;
      capacity : vec_capacity l.ports ≡ vec_capacity l.fn.ports;
    }
