use Rattle.std.proofs.Common.{◌≡◌, length, max}
use Rattle.viz_network.specs.Cone.{own_stamp}
use Rattle.viz_network.specs.Steps.Marks.{IsTold}
use Rattle.viz_network.proofs.sweep.stamps_of.Given as goal

abbrev pub invariant-loop-id : goal.invariant-loop-id
invariant-loop-id l = record { told : IsTold max 0 own_stamp l.nodes.entries l.order l.id-index l.stamps; long : length l.stamps ≡ 256 }
