use Rattle.std.proofs.Common.{◌+◌, ◌-◌, ◌<◌, ◌∙◌, length, ap, arith}
use Rattle.viz_merge.specs.Steps.Leads.{lead_in}
use Rattle.viz_merge.proofs.PassLemmas.{one-written}
use Rattle.viz_merge.proofs.leads.write_leads.Goals as goal

pub loop-at-preserved : goal.loop-at-preserved
loop-at-preserved c =
    let keys = c.args.sorted.now in
    let at = c.loop-at.at in
    let below : at < length keys = omega arith in
    record {
      written = one-written keys at c.lead_at-lead.result c.loop-at.leads.items c.write_lead.new.leads.items c.requires.indices below c.loop-at.invariant.written c.lead_at-lead.ensures.value c.write_lead.ensures.value;
      front = λ _. c.lead_at-lead.ensures.value ∙ ap (lead_in keys) {x = at} {y = at + 1 - 1} (omega arith);
    }
