use Rattle.std.proofs.Common.{[], take}
use Rattle.std.specs.List.{flat_map}
use Rattle.viz_sheet.specs.Arrays.{ranks_in}
use Rattle.viz_cells.specs.Steps.Numbered.{AreAdded}
use Rattle.viz_clip.specs.Steps.Keys.{cell_keys}
use Rattle.viz_clip.proofs.key_list.ends.Given as goal

-- the keys of the cells so far
abbrev pub invariant-loop-i : goal.invariant-loop-i
invariant-loop-i l = AreAdded [] (flat_map (λ piece. piece) (cell_keys l.inside (take l.i (ranks_in l.ranks)))) l.ends.items
