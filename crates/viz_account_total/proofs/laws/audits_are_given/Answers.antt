use Rattle.viz_account_total.proofs.AuditLemmas.{audits_given, histories_have_audits}
use Rattle.viz_account_total.proofs.laws.audits_are_given.Goals as goal

pub returns : goal.returns
returns c =
    let given = c.scratch_is_given.ensures in
    let bytes = c.histories_load_bytes.ensures in
    let audits = audits_given c.scratch_is_one.ensures.cones given.cones given.valid given.nodes
    bytes.cones in
    record { nodes = audits; histories = histories_have_audits audits bytes.histories }
