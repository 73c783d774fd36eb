use Rattle.std.proofs.Common.{◌≡◌, ◌≤◌, ◌*◌, ◌+◌, ◌-◌, ◌++◌, length, drop}
use Rattle.std.specs.List.{flat_map}
use Rattle.viz_mesh_write.specs.Steps.Passes.{long_bytes}
use Rattle.viz_mesh_write.proofs.cell_rows.left_index_longs.Given as goal

-- the last indices stand in front of what stood there
abbrev pub invariant-loop-k : goal.invariant-loop-k
invariant-loop-k l = (drop l.at l.block
    ≡ flat_map (long_bytes l.first) (drop (length l.ranks - l.k) l.ranks) ++ drop l.end l.fn.block)
    × (length l.block ≡ length l.fn.block)
    × (l.at ≤ l.end)
    × (l.end ≤ l.at + 8 * l.k)
