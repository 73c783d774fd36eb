use Rattle.std.proofs.Common.{◌≡◌, ◌++◌, map, take}
use Rattle.viz_parts.specs.Stitching.{own_items}
use Rattle.viz_sheet.specs.Arrays.{ranks_in}
use Rattle.viz_sheet.specs.Steps.Lookup.{looked_up}
use Rattle.viz_piece_stitch.proofs.cells.with_mixed.Given as goal

abbrev pub invariant-loop-i : goal.invariant-loop-i
invariant-loop-i l = l.cells.items ≡ l.initial.cells.items ++ own_items (map (looked_up l.numbers) (take l.i (ranks_in l.ranks))) (take l.i l.part.levels)
