use Rattle.std.proofs.Common.{◌≡◌, length, false, nat_eq}
use Rattle.viz_network.specs.Cone.{either}
use Rattle.viz_network.specs.Steps.Marks.{IsTold}
use Rattle.viz_network.proofs.sweep.marks_below.Given as goal

abbrev pub invariant-loop-id : goal.invariant-loop-id
invariant-loop-id l = record { told : IsTold either false (λ n. nat_eq l.to.0 n.id.0) l.nodes.entries l.order l.id-index l.marks; long : length l.marks ≡ 256 }
