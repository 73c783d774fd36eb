use Rattle.std.proofs.Common.{take}
use Rattle.viz_strip.specs.Steps.Named.{AreRanksOf}
use Rattle.viz_strip.proofs.naming.ranks_of.Given as goal

abbrev pub invariant-loop-triangle : goal.invariant-loop-triangle
invariant-loop-triangle l = AreRanksOf l.names (take l.triangle-index l.triangles) l.ranks.items
