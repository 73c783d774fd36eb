use Rattle.std.proofs.Common.{◌≡◌, ◌++◌, map, take}
use Rattle.std.specs.List.{filter}
use Rattle.viz_sheet.specs.Arrays.{ranks_in}
use Rattle.viz_sheet.specs.Steps.Lookup.{looked_up}
use Rattle.viz_mesh_meaning.specs.Merge.{has_no_repeat}
use Rattle.viz_merge.proofs.cells.push_cells.Given as goal

abbrev pub invariant-loop-i : goal.invariant-loop-i
invariant-loop-i l = l.out.items ≡ l.fn.out.items ++ filter has_no_repeat (map (looked_up l.numbers) (take l.i (ranks_in l.ranks)))
