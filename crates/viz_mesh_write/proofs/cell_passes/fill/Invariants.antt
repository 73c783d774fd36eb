use Rattle.std.proofs.Common.{◌≡◌, ◌≤◌, ◌*◌, ◌+◌, ◌-◌, length, drop}
use Rattle.std.specs.List.{flat_map}
use Rattle.viz_mesh_write.proofs.cell_passes.fill.Given as goal

-- the rows of the last cells stand at the end
abbrev pub invariant-loop-k : goal.invariant-loop-k
invariant-loop-k g l = (drop l.end l.block
    ≡ flat_map (λ cell. g.R.CellRow.written l.what l.binary l.first (g.C.CellRanks.list cell))
    (drop (length l.cells - l.k) l.cells))
    × (length l.block ≡ 65536)
    × (l.end ≤ 65536)
    × (65536 ≤ l.end + 128 * l.k)
