use Rattle.std.proofs.Common.{sym, subst}
use Rattle.viz_kept.specs.Whole.{IsWholePart}
use Rattle.viz_parts.specs.declared.stored.Stored.{Stored}
use Rattle.viz_executive.specs.Produced.{IsOnly}
use Rattle.viz_executive.proofs.OnlyLemmas.{made_more}
use Rattle.viz_executive.proofs.only.all_made.Goals as goal

pub returns-clause-made : goal.returns-clause-made
returns-clause-made c = λ net m o.
    let item : Stored = record { key = c.in-Some.key; part = c.in_ok-part.part } in
    let whole = c.in_ok-_request.ensures in
    made_more net c.args.made.items c.push.new.self.items item c.args.dataset c.in_ok-_request._request c.in_ok-push.ensures.items whole.request
    (subst (IsWholePart c.args.dataset c.in_ok-_request._request) (sym c.in_ok-part.ensures.value) whole.part) m
    (subst (IsOnly net c.args.dataset) c.in-Some.is o)
