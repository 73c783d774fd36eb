use Rattle.std.proofs.Common.{◌≡◌, ◌+◌, ◌++◌, map, drop}
use Rattle.viz_mesh_write.specs.Steps.Kinds.{written_by}
use Rattle.viz_mesh_write.specs.Steps.Passes.{cell_rows}
use Rattle.viz_mesh_write.specs.Steps.SheetCells.{points_by}
use Rattle.viz_mesh_write.proofs.cell_passes.put_all_cells.Given as goal

-- the cells so far, and those to come; the points in front, and those to come
abbrev pub invariant-loop-sheet : goal.invariant-loop-sheet
invariant-loop-sheet g l = record {
  written : g.T.Target.text l.text ++ cell_rows (written_by l.what l.binary) l.first (map g.S.SheetCells.seen (drop l.sheet-index l.sheets)) ≡ g.T.Target.text l.fn.text ++ cell_rows (written_by l.what l.binary) 0 (map g.S.SheetCells.seen l.sheets);
  points : l.first + points_by g.S.SheetCells.seen (drop l.sheet-index l.sheets) ≡ points_by g.S.SheetCells.seen l.sheets;
}
