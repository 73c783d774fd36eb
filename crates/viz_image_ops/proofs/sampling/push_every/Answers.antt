use Rattle.std.proofs.Common.{◌≡◌, ℕ, ◌+◌, ◌-◌, ◌*◌, ◌++◌, map, pos, get_or, ap, ◌∙◌, sym, arith}
use Rattle.viz_image_ops.specs.Joined.{run_of}
use Rattle.viz_image_ops.proofs.JoinedLemmas.{run_more}
use Rattle.viz_image_ops.proofs.SampleLemmas.{value_read}
use Rattle.viz_image_ops.proofs.sampling.push_every.Goals as goal

pub loop-m-preserved : goal.loop-m-preserved
loop-m-preserved g c =
    let value = g.T.Number.value in
    let xs = c.args.numbers.now in
    let m = c.loop-m.m in
    let at = λ (m : ℕ). get_or (map value xs) (c.args.start + m * c.args.step) (pos 0) in
    let old = map value c.args.kept.now.items in
    let so_far : m - 0 ≡ m = omega arith in
    let next : m + 1 - 0 ≡ m + 1 = omega arith in
    let read = value_read value xs (c.args.start + m * c.args.step) c.index-numbers-start.result (c.requires.within m c.loop-m-test.true) c.index-numbers-start.is in
    run_more value at 0 m old c.loop-m.kept.items c.push.new.self.items c.index-numbers-start.result (omega arith)
    (c.loop-m.invariant ∙ ap (λ (n : ℕ). old ++ run_of at 0 n) (sym so_far)) c.in_ok-push.ensures.items read
    ∙ ap (λ (n : ℕ). old ++ run_of at 0 n) next
