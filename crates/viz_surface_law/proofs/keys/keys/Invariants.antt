use Rattle.std.proofs.Common.{◌≡◌, ◌++◌, drop}
use Rattle.viz_sheet.specs.Arrays.{ranks_in}
use Rattle.viz_surface_law.specs.Steps.Keys.{keys_in}
use Rattle.viz_surface_law.proofs.keys.keys.Given as goal

abbrev pub invariant-loop-i : goal.invariant-loop-i
invariant-loop-i l = l.keys.items ++ keys_in (drop l.i (ranks_in l.triangles)) ≡ keys_in (ranks_in l.triangles)
