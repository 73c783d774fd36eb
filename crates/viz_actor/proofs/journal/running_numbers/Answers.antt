use Rattle.std.proofs.Common.{◌+◌, sym, subst}
use Rattle.viz_actor.proofs.FoundLemmas.{Counted, counted_more}
use Rattle.viz_actor.proofs.journal.running_numbers.Goals as goal

pub loop-actor-preserved : goal.loop-actor-preserved
loop-actor-preserved c =
    subst (Counted c.args.actors.now (c.loop-actor.actor-index + 1) c.count_one.new.counts) (sym c.in_ok-push.ensures.items)
    (counted_more c.args.actors.now c.loop-actor.actor-index c.in_ok-count_one.field-0 c.loop-actor.counts c.count_one.new.counts c.loop-actor.numbers.items c.loop-actor-test.true c.in_ok-count_one.ensures c.loop-actor.invariant)
