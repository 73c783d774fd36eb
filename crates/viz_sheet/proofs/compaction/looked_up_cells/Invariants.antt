use Rattle.std.proofs.Common.{◌≡◌, map, take}
use Rattle.viz_sheet.specs.Steps.Lookup.{looked_up}
use Rattle.viz_sheet.proofs.compaction.looked_up_cells.Given as goal

abbrev pub invariant-loop-cell : goal.invariant-loop-cell
invariant-loop-cell g l = map g.C.CellRanks.list l.renumbered.items ≡ map (λ cell. looked_up l.numbers (g.C.CellRanks.list cell)) (take l.cell-index l.cells)
