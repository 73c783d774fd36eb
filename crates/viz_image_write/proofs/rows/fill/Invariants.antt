use Rattle.std.proofs.Common.{◌≡◌, ◌≤◌, ◌*◌, ◌+◌, ◌-◌, length, drop, map}
use Rattle.std.specs.List.{flat_map}
use Rattle.viz_image_write.specs.ImageText.{spaced_number}
use Rattle.viz_image_write.proofs.rows.fill.Given as goal

-- the last numbers stand at the end
abbrev pub invariant-loop-k : goal.invariant-loop-k
invariant-loop-k g l = (drop l.end l.block
    ≡ flat_map spaced_number (map g.T.Number.value (drop (length l.values - l.k) l.values)))
    × (length l.block ≡ 65536)
    × (l.end ≤ 65536)
    × (65536 ≤ l.end + 22 * l.k)
