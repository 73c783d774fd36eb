use Rattle.std.proofs.Common.{◌≡◌}
use Rattle.viz_piece_tets.specs.Layers.{levels_between}
use Rattle.viz_piece_tets.proofs.layers.OwnLayers.levels.Given as goal

abbrev pub invariant-loop-z : goal.invariant-loop-z
invariant-loop-z l = l.levels.items ≡ levels_between l.self.first l.self.next l.size l.fn.low l.z
