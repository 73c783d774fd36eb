use Rattle.std.proofs.Common.{◌≡◌, take}
use Rattle.std.specs.List.{flat_map}
use Rattle.viz_sheet.specs.Arrays.{ranks_in}
use Rattle.viz_clip.specs.Steps.Numbers.{numbered_in}
use Rattle.viz_clip.proofs.tets.tets.Given as goal

abbrev pub invariant-loop-i : goal.invariant-loop-i
invariant-loop-i l = l.out.items ≡ flat_map (numbered_in l.inside l.numbers) (take l.i (ranks_in l.ranks))
