use Rattle.std.proofs.Common.{◌≡◌, ◌-◌, ◌<◌}
use Rattle.viz_merge.specs.Steps.Leads.{AreWritten, lead_in}
use Rattle.viz_merge.proofs.leads.write_leads.Given as goal

abbrev pub invariant-loop-at : goal.invariant-loop-at
invariant-loop-at l = record {
  written : AreWritten l.sorted l.at l.leads.items;
  front : 0 < l.at → l.lead ≡ lead_in l.sorted (l.at - 1);
}
