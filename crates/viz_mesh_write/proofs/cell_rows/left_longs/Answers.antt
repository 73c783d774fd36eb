use Rattle.std.proofs.Common.{drop}
use Rattle.viz_mesh_write.proofs.CellLemmas.{line_bytes}
use Rattle.viz_mesh_write.proofs.cell_rows.left_longs.Goals as goal

pub returns-clause-written : goal.returns-clause-written
returns-clause-written c =
    line_bytes c.args.first c.args.ranks.now (drop c.args.end c.args.block.now) _
    c.left_index_longs.ensures.written
