use Rattle.std.proofs.Common.{sym}
use Rattle.viz_offset_cells.proofs.BlockLoops.{cuts-end}
use Rattle.viz_offset_cells.proofs.wide_cells.next_cells.Goals as goal

pub next_steps-requires-clause-all : goal.next_steps-requires-clause-all
next_steps-requires-clause-all c = sym (cuts-end c.args.cuts.now c.in-Steps.step c.in-Steps.count c.args.indices c.in-Steps.is c.requires.cuts)
