use Rattle.std.proofs.Common.{take}
use Rattle.std.specs.List.{All}
use Rattle.viz_surface_law.specs.Surfaces.{IsEdgeName}
use Rattle.viz_surface_law.proofs.surfaces.are_edge_names.Given as goal

abbrev pub invariant-loop-rank : goal.invariant-loop-rank
invariant-loop-rank l = All (IsEdgeName l.count) (take l.rank l.sheet.names)
