use Rattle.std.proofs.Common.{◌≡◌, ◌+◌, ◌++◌, length, subst, sym, ◌∙◌, ap, take}
use Rattle.std.proofs.lemmas.List.{length-append}
use Rattle.viz_plan.specs.Sites.{known_in}
use Rattle.viz_plan.specs.Told.{needs_in}
use Rattle.viz_executive.specs.Steps.Tasks.{ArePlanned, all_needs}
use Rattle.viz_executive.proofs.DoneLemmas.{done_are, done_less, levels_more, needs_length}
use Rattle.viz_executive.proofs.levels.run_levels.Goals as goal

pub run_one-requires-clause-planned : goal.run_one-requires-clause-planned
run_one-requires-clause-planned g c κs within =
    let ground = c.args.ground.now in
    subst (ArePlanned (known_in ground.sites) ground.sink ground.requests) (sym (c.deref.ensures.value ∙ ap (λ v. v.items) c.keys-item.is))
    (c.requires.planned.each c.loop-keys.keys-index c.keys-item.result c.loop-keys-test.true)

pub loop-keys-preserved : goal.loop-keys-preserved
loop-keys-preserved g c =
    let net = c.args.ground.now.sites.net in
    let levels = c.args.levels.now in
    let i = c.loop-keys.keys-index in
    let before = all_needs (take i levels) in
    let keys = c.deref.result.now in
    let done = c.run_one.new.done in
    let same : before ++ needs_in keys ≡ all_needs (take (i + 1) levels) =
    ap (λ ks. before ++ needs_in ks) c.deref.ensures.value ∙ levels_more levels i c.keys-item.result c.loop-keys-test.true c.keys-item.is in
    let all = done_are net (before ++ needs_in keys) (all_needs (take (i + 1) levels)) done.table.items done.made.items same
    (c.in_ok-ran.ensures.done before c.loop-keys.invariant.done) in
    record {
      number = c.in_ok-ran.ensures.number ∙ ap (λ n. n + length keys) c.loop-keys.invariant.number
          ∙ sym (length-append before (needs_in keys) ∙ ap (λ n. length before + n) (needs_length keys)) ∙ ap length same;
      done = done_less net (all_needs (take (i + 1) levels)) done.table.items c.give_up.new.table.items done.made.items all
          (c.give_up.ensures net all.exact);
    }
