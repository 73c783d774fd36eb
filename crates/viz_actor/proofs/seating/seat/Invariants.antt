use Rattle.std.proofs.Common.{◌≡◌, All, vec_capacity}
use Rattle.viz_actor.specs.Runs.{ports_of, IsIdle}
use Rattle.viz_actor.proofs.seating.seat.Given as goal

abbrev pub invariant-loop-port : goal.invariant-loop-port
invariant-loop-port g l =
    record {
      ports : ports_of l.places.items ≡ l.yielded;
      idle : All IsIdle l.places.items;
      capacity : vec_capacity l.places ≡ vec_capacity l.fn.places;
    }
