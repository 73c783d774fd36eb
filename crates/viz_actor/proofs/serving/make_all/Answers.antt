use Rattle.std.proofs.Common.{sym, subst, ap}
use Rattle.viz_actor.specs.Serving.{Batches}
use Rattle.viz_actor.proofs.ServeLemmas.{batch_told}
use Rattle.viz_actor.proofs.serving.make_all.Goals as goal

pub returns-clause-edits : goal.returns-clause-edits
returns-clause-edits g c =
    let p = c.args.pass.now in
    let batch = c.args.batch in
    let new = c.edit-answer.new.pass.seen in
    subst (λ limit. Batches limit p.number batch c.batch_line.result p.seen new) (ap (λ t. t.mark) c.requires.belongs)
    (subst (λ l. Batches p.turn.mark p.number batch l p.seen new) (sym c.batch_line.ensures) (batch_told p batch new c.edit-answer.result c.edit-answer.ensures.answers))
