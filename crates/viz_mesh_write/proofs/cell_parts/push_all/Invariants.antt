use Rattle.std.proofs.Common.{◌≡◌, ◌*◌, ◌++◌, take, length}
use Rattle.std.specs.List.{flat_map}
use Rattle.viz_workers.specs.Level.{AreItems}
use Rattle.viz_mesh_write.specs.Steps.Parts.{IsCellPart}
use Rattle.viz_mesh_write.proofs.cell_parts.push_all.Given as goal

-- the rows of the parts so far; those that are left are as they were
abbrev pub invariant-loop-part : goal.invariant-loop-part
invariant-loop-part g l = record {
  written : l.text ≡ l.fn.text
      ++ flat_map (λ cell. g.R.CellRow.written l.what l.binary l.first (g.C.CellRanks.list cell))
      (take (l.part * 16384) l.cells);
  parts : AreItems (IsCellPart
      (λ cell. g.R.CellRow.written l.what l.binary l.first (g.C.CellRanks.list cell)) l.cells) 0
      l.parts;
  len : length l.parts ≡ length l.initial.parts;
}
