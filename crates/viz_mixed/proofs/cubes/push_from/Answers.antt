use Rattle.std.proofs.Common.{arith}
use Rattle.viz_mixed.specs.Mixed.{mixed_from}
use Rattle.viz_mixed.proofs.CubeLemmas.{from-more}
use Rattle.viz_mixed.proofs.cubes.push_from.Goals as goal

pub loop-at-preserved : goal.loop-at-preserved
loop-at-preserved c = record {
  within = omega (arith, c.min-count.ensures, c.loop-at.invariant.within);
  made = from-more (mixed_from c.args.flags.now c.args.row c.args.plane) c.args.first c.loop-at.at c.min-count.result c.args.out.now c.loop-at.out c.push_word.new.out
      c.loop-at.invariant.made c.in_ok-push_word.ensures;
}
