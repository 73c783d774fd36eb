use Rattle.viz_mesh_meaning.specs.Merge.{all_points}
use Rattle.viz_merge.proofs.MadeLemmas.{indices-for, leads-for}
use Rattle.viz_merge.proofs.merging.all_leads.Goals as goal

pub leads_of-requires : goal.leads_of-requires
leads_of-requires c = record {
  indices =
      indices-for (all_points c.args.sheets.now) c.in_ok-keys.keys.items c.sort_unstable.new.self.items c.deref.result.now
      c.in_ok-keys.ensures.value c.in_ok-keys.ensures.few c.sort_unstable.ensures.permutation c.deref.ensures.value;
}

pub returns-clause-value : goal.returns-clause-value
returns-clause-value c =
    leads-for (all_points c.args.sheets.now) c.in_ok-keys.keys.items c.sort_unstable.new.self.items c.deref.result.now c.in_ok-leads.leads.items
    c.in_ok-keys.ensures.value c.sort_unstable.ensures.permutation c.sort_unstable.ensures.sorted c.deref.ensures.value c.in_ok-leads.ensures.value
