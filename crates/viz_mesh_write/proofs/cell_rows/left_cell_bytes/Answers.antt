use Rattle.std.proofs.Common.{drop}
use Rattle.viz_mesh_write.proofs.CellLemmas.{cell_bytes}
use Rattle.viz_mesh_write.proofs.cell_rows.left_cell_bytes.Goals as goal

pub returns-clause-written : goal.returns-clause-written
returns-clause-written c =
    cell_bytes c.args.first c.args.ranks.now (drop c.args.end c.args.block.now)
    (drop c.left_index_bytes-indices.result c.left_index_bytes-indices.new.block) _
    c.left_index_bytes-indices.ensures.written c.left_int.ensures.written
