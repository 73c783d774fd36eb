use Rattle.std.proofs.Common.{◌≡◌, true, false, ap, sym, ◌∙◌, true≢false}
use Rattle.viz_parts.specs.contracts.request.RequestPartialEq.TheImpl as equality
use Rattle.viz_piece_restrict.proofs.RequestLemmas.{request-itself}
use Rattle.viz_piece_restrict.proofs.restriction.restrict_shared.Goals as goal

pub returns-clause-same : goal.returns-clause-same
returns-clause-same c = λ e.
    let is : (equality.ghosts).eq c.args.kept.now c.args.wanted.now ≡ true = ap (λ a. (equality.ghosts).eq a c.args.wanted.now) e ∙ request-itself c.args.wanted.now in
    let no : c.eq.result ≡ false = c.if-eq.false in
    absurd (true≢false (sym is ∙ sym c.eq.ensures ∙ no))
