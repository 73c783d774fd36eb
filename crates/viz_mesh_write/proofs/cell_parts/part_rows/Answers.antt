use Rattle.std.proofs.Common.{◌∙◌}
use Rattle.viz_mesh_write.proofs.PartLemmas.{rows_of_part}
use Rattle.viz_mesh_write.proofs.cell_parts.part_rows.Goals as goal

pub returns : goal.returns
returns g c =
    c.new-2.ensures.value ∙ rows_of_part
    (λ cell. g.R.CellRow.written c.args.what.now c.args.binary c.args.first (g.C.CellRanks.list cell))
    c.part_at-rows.result.now c.args.cells.now c.args.part c.in_ok-text.text.items _
    c.part_at-rows.ensures c.in_ok-text.ensures.items c.in_ok-put_cells.ensures
