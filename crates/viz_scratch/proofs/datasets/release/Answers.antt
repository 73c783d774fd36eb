use Rattle.viz_scratch.proofs.TableLemmas.{released_none, released_more}
use Rattle.viz_scratch.proofs.datasets.release.Goals as goal

pub loop-place-init : goal.loop-place-init
loop-place-init c = record { released = released_none c.args.last.now c.args.k c.args.table.now.items }

pub loop-place-preserved : goal.loop-place-preserved
loop-place-preserved c = record {
  released = released_more c.args.last.now c.args.k c.args.table.now.items c.loop-place.table.items c.release_one.new.table.items c.loop-place.invariant.released c.release_one.ensures;
}
