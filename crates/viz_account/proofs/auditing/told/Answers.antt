use Rattle.std.proofs.Common.{refl, sym, subst, None, Ok, Err}
use Rattle.viz_node_meaning.specs.Scratch.{Answers}
use Rattle.viz_surface_law.specs.declared.audits.Counts.{Counts}
use Rattle.viz_account.specs.Audited.{IsAuditOf}
use Rattle.viz_account.specs.Answers.{HandsOut, audit_line_of, audit_missing_in, audit_without}
use Rattle.viz_account.specs.Laws.{IsClosedLine}
use Rattle.viz_account.specs.Lines.{TellsAudit}
use Rattle.viz_account.specs.Steps.Made.{HasParts}
use Rattle.viz_account.proofs.AuditLemmas.{stopped_audit, without_closed}
use Rattle.viz_account.proofs.MadeLemmas.{result_hands, stop_hands, audit_missing_without}
use Rattle.viz_account.proofs.auditing.told.Goals as goal

pub returns-in-Ok-clause-tells : goal.returns-in-Ok-clause-tells
returns-in-Ok-clause-tells c =
    let net = c.args.net.now in
    let id = c.args._id.0 in
    let named = c.requires.named in (
      refl,
      (
        named.found,
        named.there,
        subst (λ i. IsAuditOf net i (Ok c.in-Ok.audit)) (sym named.same)
            (subst (Answers (IsAuditOf net id)) c.in-Ok.is c.requires.counted.counts),
      ),
    )

pub returns-in-Ok-clause-closed : goal.returns-in-Ok-clause-closed
returns-in-Ok-clause-closed c =
    let net = c.args.net.now in
    let id = c.args._id.0 in
    let closed = c.audits_are_closed.ensures.closed net id c.in-Ok.audit
    (subst (Answers (IsAuditOf net id)) c.in-Ok.is c.requires.counted.counts) in
    (closed.sides, closed.lone)

pub returns-in-Ok-clause-parts : goal.returns-in-Ok-clause-parts
returns-in-Ok-clause-parts c =
    let net = c.args.net.now in
    let id = c.args._id.0 in
    let parts = c.args.counted.parts in
    let entries = c.args._entries.now in
    let pieces = c.args._shape.now.pieces in
    result_hands net entries pieces c.args._node.now id c.in-Ok.audit None parts c.requires.named
    (subst (λ r. HasParts net entries pieces id r parts) c.in-Ok.is c.requires.counted.parts)

pub returns-in-Err-clause-tells : goal.returns-in-Err-clause-tells
returns-in-Err-clause-tells c =
    let net = c.args.net.now in
    let id = c.args._id.0 in
    let node = c.args._node.now in
    let named = c.requires.named in
    let stop = c.in-Err.stop in
    let told = stopped_audit net c.args.at node named.found stop c.missing_of.result named.there
    (subst (λ i. Answers (IsAuditOf net i) (Err stop)) (sym named.same)
    (subst (Answers (IsAuditOf net id)) c.in-Err.is c.requires.counted.counts)) c.missing_of.ensures in
    subst (λ a. TellsAudit net c.args.at node (audit_line_of a)) (sym c.without.ensures.value) told

pub returns-in-Err-clause-closed : goal.returns-in-Err-clause-closed
returns-in-Err-clause-closed c =
    subst (λ a. IsClosedLine (audit_line_of a)) (sym c.without.ensures.value)
    (without_closed c.missing_of.result c.args.at)

pub returns-in-Err-clause-parts : goal.returns-in-Err-clause-parts
returns-in-Err-clause-parts c =
    let net = c.args.net.now in
    let node = c.args._node.now in
    let id = c.args._id.0 in
    let parts = c.args.counted.parts in
    let gone = c.missing_of.result in
    let entries = c.args._entries.now in
    let pieces = c.args._shape.now.pieces in
    subst (λ a. HandsOut net entries pieces node (audit_missing_in a) parts) (sym c.without.ensures.value)
    (stop_hands Counts net node id entries pieces c.in-Err.stop gone (audit_missing_in (audit_without gone c.args.at)) parts
    c.requires.named c.missing_of.ensures
    (subst (λ f. HasParts net entries pieces id f parts) c.in-Err.is c.requires.counted.parts)
    (audit_missing_without gone c.args.at))
