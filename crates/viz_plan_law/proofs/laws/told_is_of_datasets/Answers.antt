use Rattle.viz_plan_law.proofs.ToldLemmas as lemma
use Rattle.viz_plan_law.proofs.laws.told_is_of_datasets.Goals as goal

pub returns : goal.returns
returns c =
    let one = c.rules_are_one.ensures.information in
    record {
      some = lemma.are_told;
      one = lemma.told_is_one one;
      given = lemma.told_given one c.datasets_are_divided.ensures.narrow;
      extent = lemma.told_extent one;
      mesh = lemma.told_mesh one;
    }
