use Rattle.viz_report.proofs.ReportLemmas.{one_actor}
use Rattle.viz_report.proofs.laws.one_actor_is_reported_in_order.Goals as goal

pub returns : goal.returns
returns c = record { rows = one_actor }
