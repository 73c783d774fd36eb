use Rattle.std.proofs.Common.{drop}
use Rattle.viz_mesh_write.proofs.CellLemmas.{cell_words}
use Rattle.viz_mesh_write.proofs.cell_rows.left_cell_words.Goals as goal

pub returns-clause-written : goal.returns-clause-written
returns-clause-written c =
    cell_words c.args.first c.args.ranks.now (drop c.args.end c.args.block.now)
    (drop c.left_byte-newline.result c.left_byte-newline.new.block)
    (drop c.left_index_words-indices.result c.left_index_words-indices.new.block) _
    c.left_byte-newline.ensures.written c.left_index_words-indices.ensures.written
    c.left_count.ensures.written
