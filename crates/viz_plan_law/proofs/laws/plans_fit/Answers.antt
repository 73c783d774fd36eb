use Rattle.viz_plan_law.proofs.EditPortLemmas.{edits_keep, histories_keep}
use Rattle.viz_plan_law.proofs.FitLemmas as lemma
use Rattle.viz_plan_law.proofs.KnownLemmas.{inputs_known}
use Rattle.viz_plan_law.proofs.ToldKnownLemmas.{told_is_known}
use Rattle.viz_plan_law.proofs.UpdateLemmas.{updates_fit}
use Rattle.viz_plan_law.proofs.laws.plans_fit.Goals as goal

pub returns : goal.returns
returns c =
    let one = c.rules_are_one.ensures.information in
    let fitting = c.fitting_can_be_asked.ensures.law in
    record {
      tasks = lemma.plans_fit one fitting;
      requests = lemma.requests_fit one fitting;
      update = updates_fit;
      asked = lemma.nodes_ask one fitting;
      known = inputs_known;
      told = told_is_known;
      edits = edits_keep;
      histories = histories_keep;
    }
