use Rattle.std.proofs.Common.{◌≡◌, ◌++◌, take, drop}
use Rattle.viz_actor.specs.Groups.{in_front, behind}
use Rattle.viz_actor.proofs.running.front_len.Given as goal

-- all steps so far are of the phase
abbrev pub invariant-loop-i : goal.invariant-loop-i
invariant-loop-i l =
    record {
      front : in_front l.phase l.steps ≡ take l.i l.steps ++ in_front l.phase (drop l.i l.steps);
      back : behind l.phase l.steps ≡ behind l.phase (drop l.i l.steps);
    }
