use Rattle.viz_offset_cells.proofs.OffsetLoops.{known-cuts}
use Rattle.viz_offset_cells.proofs.BlockLoops.{cuts-read}
use Rattle.viz_offset_cells.proofs.offsets.all_offsets.Goals as goal

pub returns-then-binary-clause-cuts : goal.returns-then-binary-clause-cuts
returns-then-binary-clause-cuts c = cuts-read _ c.args.kind c.args.most c.args.indices c.args.lexer.now c.block_offsets.new.lexer c.block_offsets.result c.requires.none c.block_offsets.ensures

pub returns-clause-cuts : goal.returns-clause-cuts
returns-clause-cuts c = known-cuts c.args.binary c.args.kind c.args.most c.args.indices c.args.lexer.now c.listed_offsets.new.lexer c.in_ok-offsets.offsets.items c.requires.none c.in_ok-offsets.ensures
