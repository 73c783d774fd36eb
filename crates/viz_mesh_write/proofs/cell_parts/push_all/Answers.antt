use Rattle.std.proofs.Common.{◌∙◌, arith}
use Rattle.viz_mesh_write.proofs.PartLemmas.{rows_more, rows_all}
use Rattle.viz_mesh_write.proofs.cell_parts.push_all.Goals as goal

pub loop-part-preserved : goal.loop-part-preserved
loop-part-preserved g c =
    record {
      written = rows_more
          (λ cell. g.R.CellRow.written c.args.what.now c.args.binary c.args.first (g.C.CellRanks.list cell))
          c.args.cells.now c.loop-part.part c.args.text.now c.loop-part.text _ c.in_ok-rows.rows
          c.loop-part.invariant.written c.in_ok-rows.ensures.part c.in_ok-push_part.ensures;
      parts = c.taken.ensures.parts;
      len = c.taken.ensures.len ∙ c.loop-part.invariant.len;
    }

pub returns : goal.returns
returns g c =
    rows_all
    (λ cell. g.R.CellRow.written c.args.what.now c.args.binary c.args.first (g.C.CellRanks.list cell))
    c.args.cells.now c.loop-part.part c.args.text.now c.loop-part.text
    (omega (arith, c.requires.enough, c.loop-part-test.false, c.loop-part.invariant.len))
    c.loop-part.invariant.written
