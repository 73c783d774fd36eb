use Rattle.std.proofs.Common.{rules, ◌∙◌}
use Rattle.std.proofs.lemmas.List.Sorted.{answers_always}
use Rattle.viz_network.proofs.RankLemmas.{searched}
use Rattle.viz_network.proofs.nodes.rank_of.Goals as goal

pub returns-clause-value : goal.returns-clause-value
returns-clause-value c =
    let by_key = c.binary_search_by_key.ensures.position (λ e. e.1.id.0) (answers_always _ _ _ (λ f a r g called. search rules)) in
    c.ok.ensures.value ∙ searched c.args.nodes.now.entries c.requires c.args.id.0 _ c.binary_search_by_key.ensures.bound by_key
