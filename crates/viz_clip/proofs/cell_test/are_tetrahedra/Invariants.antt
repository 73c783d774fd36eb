use Rattle.std.proofs.Common.{◌≡◌, length, take}
use Rattle.std.specs.List.{All}
use Rattle.viz_sheet.specs.Arrays.{ranks_in}
use Rattle.viz_clip.proofs.cell_test.are_tetrahedra.Given as goal

abbrev pub invariant-loop-i : goal.invariant-loop-i
invariant-loop-i l = All (λ cell. length cell ≡ 4) (take l.i (ranks_in l.ranks))
