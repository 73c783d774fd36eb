use Rattle.std.proofs.Common.{◌≡◌, Some, None, ◌-◌, ◌<◌, ◌++◌, ◌∷◌, [], length, ap, ◌∙◌, rules, arith}
use Rattle.std.proofs.lemmas.List.{get_or_default}
use Rattle.viz_script.specs.declared.parser.OpenBatch.{OpenBatch}
use Rattle.viz_script.proofs.parser.push_edit.Goals as goal

pub returns-in_ok-push : goal.returns-in_ok-push
returns-in_ok-push c = λ b is.
    let low = c.requires.actor.least in
    let high = c.requires.actor.most in
    let within : c.args.actor - 1 < length c.args.batches.now = omega (arith, low, high, c.told-batches) in
    let read = get_or_default c.args.batches.now (c.args.actor - 1) None c.index-batches-actor.result within in
    let both : Some b ≡ Some c.in-Some.batch = cc (is, read, c.in-Some.is) in
    let same : c.in-Some.batch ≡ b = cc both in (
      record { index = c.in-Some.batch.index; edits = c.push.new.self },
      search rules,
      record {
        index = ap (λ (x : OpenBatch). x.index) same;
        edits = c.in_ok-push.ensures.items ∙ ap (λ (x : OpenBatch). x.edits.items ++ c.args.edit ∷ []) same;
      },
    )
