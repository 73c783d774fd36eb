use Rattle.std.proofs.Common.{sym, subst, ap}
use Rattle.viz_hub.specs.Answers.{Answers}
use Rattle.viz_actor.specs.Serving.{Edits}
use Rattle.viz_actor.proofs.ServeLemmas.{edits_told}
use Rattle.viz_actor.proofs.serving.make.Goals as goal

pub returns-clause-edits : goal.returns-clause-edits
returns-clause-edits g c =
    let p = c.args.pass.now in
    let e = c.args.edit in
    let new = c.edit-answer.new.pass.seen in
    let answer = c.edit-answer.result in
    let answers = subst (λ batch. Answers p batch answer new) c.one.ensures.value c.edit-answer.ensures.answers in
    subst (λ limit. Edits limit p.number e c.edit_line.result p.seen new) (ap (λ t. t.mark) c.requires.belongs)
    (subst (λ l. Edits p.turn.mark p.number e l p.seen new) (sym c.edit_line.ensures) (edits_told p e new answer answers))
