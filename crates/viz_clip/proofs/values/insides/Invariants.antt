use Rattle.std.proofs.Common.{◌≡◌, map, pos, take}
use Rattle.std.specs.Prelude.{int_le}
use Rattle.viz_clip.proofs.values.insides.Given as goal

abbrev pub invariant-loop-value : goal.invariant-loop-value
invariant-loop-value l = l.inside.items ≡ map (int_le (pos 0)) (take l.value-index l.values)
