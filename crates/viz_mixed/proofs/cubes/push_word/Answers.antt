use Rattle.std.proofs.Common.{◌+◌, ◌<◌, arith, ap, ◌∙◌}
use Rattle.viz_mixed.specs.Mixed.{is_mixed, mixed_from}
use Rattle.viz_mixed.proofs.CubeLemmas.{one-more}
use Rattle.viz_mixed.proofs.cubes.push_word.Goals as goal

pub loop-t-preserved : goal.loop-t-preserved
loop-t-preserved c =
    let t = c.loop-t.t in
    let l : t < 64 = omega arith in
    one-more (λ i. mixed_from c.args.flags.now c.args.row c.args.plane (c.args.lowest + i)) t c.is_set.result c.args.out.now c.loop-t.out c.push.new.self
    c.loop-t.invariant c.in_ok-push.ensures.ok (c.is_set.ensures ∙ c.mixed_of-word.ensures.value t l ∙ ap is_mixed (c.corner_words.ensures.value t l))
