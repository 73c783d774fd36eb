use Rattle.std.proofs.Common.{drop, rules}
use Rattle.viz_mesh_write.proofs.CellLemmas.{line_words, line_empty}
use Rattle.viz_mesh_write.proofs.cell_rows.left_line.Goals as goal

pub returns-then-is_empty-clause-written : goal.returns-then-is_empty-clause-written
returns-then-is_empty-clause-written c =
    line_empty c.args.first c.args.ranks.now (drop c.args.end c.args.block.now)
    (drop c.left_byte-newline.result c.left_byte-newline.new.block) c.left_index_words-indices.result
    c.left_index_words-indices.new.block (search rules) c.left_byte-newline.ensures.written
    c.left_index_words-indices.ensures.written

pub returns-else-is_empty-clause-written : goal.returns-else-is_empty-clause-written
returns-else-is_empty-clause-written c =
    line_words c.args.first c.args.ranks.now (drop c.args.end c.args.block.now)
    (drop c.left_byte-newline.result c.left_byte-newline.new.block) c.left_index_words-indices.result
    c.left_index_words-indices.new.block (search rules) c.left_byte-newline.ensures.written
    c.left_index_words-indices.ensures.written
