use Rattle.std.proofs.Common.{◌≡◌, map}
use Rattle.viz_executive.proofs.wholes.parts_of.Given as goal

abbrev pub invariant-loop-one : goal.invariant-loop-one
invariant-loop-one l = l.parts.items ≡ map (λ a. a.part) l.yielded
