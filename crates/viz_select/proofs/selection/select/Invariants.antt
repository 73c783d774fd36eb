use Rattle.std.proofs.Common.{◌≡◌, map, take}
use Rattle.viz_mesh_meaning.specs.Select.{selected}
use Rattle.viz_select.proofs.selection.select.Given as goal

abbrev pub invariant-loop-sheet : goal.invariant-loop-sheet
invariant-loop-sheet l = l.made.items ≡ map (selected l.all l.lo l.hi) (take l.sheet-index l.sheets)
