use Rattle.std.proofs.Common.{◌≡◌, ◌++◌, length, map}
use Rattle.std.specs.List.{flat_map}
use Rattle.viz_image_write.specs.ImageText.{spaced_number}
use Rattle.viz_image_write.proofs.rows.put_others.Given as goal

-- the numbers so far, and those to come
abbrev pub invariant-loop-left : goal.invariant-loop-left
invariant-loop-left g l = l.text.items ++ flat_map spaced_number (map g.T.Number.value l.left)
    ≡ l.fn.text.items ++ flat_map spaced_number (map g.T.Number.value l.values)

abbrev pub decreases-loop-left : goal.decreases-loop-left
decreases-loop-left g l = length l.left
