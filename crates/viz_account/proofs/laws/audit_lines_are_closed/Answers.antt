use Rattle.viz_account.proofs.AuditLemmas.{audit_lines}
use Rattle.viz_account.proofs.laws.audit_lines_are_closed.Goals as goal

pub returns : goal.returns
returns g c = record { closed = audit_lines c.audits_are_closed.ensures.closed g.P.Port }
