use Rattle.std.proofs.Common.{sym, ◌∙◌}
use Rattle.viz_source.proofs.StreamLemmas.{answered-all, answered-too_long}
use Rattle.viz_source.proofs.laws.answers_the_same_for_every_cut.Goals as goal

pub returns-clause-lines : goal.returns-clause-lines
returns-clause-lines c whole last other_last lines others h over k other_over =
    answered-all whole last lines h over ∙ sym (answered-all whole other_last others k other_over)

pub returns-clause-end : goal.returns-clause-end
returns-clause-end c whole last other_last lines others h k =
    let one = answered-too_long whole last lines h in
    let other = answered-too_long whole other_last others k in
    (λ long. other.0 (one.1 long), λ long. one.0 (other.1 long))
