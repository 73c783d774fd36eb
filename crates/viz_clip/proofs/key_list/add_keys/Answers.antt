use Rattle.viz_clip.proofs.AddedLemmas.{added-more}
use Rattle.viz_clip.proofs.key_list.add_keys.Goals as goal

pub loop-key-preserved : goal.loop-key-preserved
loop-key-preserved c =
    added-more c.args.keys.now c.args.ends.now.items c.loop-key.ends.items c.add_key.new.ends.items c.loop-key.key-index c.loop-key-test.true c.loop-key.invariant c.in_ok-add_key.ensures
