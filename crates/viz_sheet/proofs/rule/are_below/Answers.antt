use Rattle.std.proofs.Common.{◌<◌, rules}
use Rattle.std.proofs.lemmas.List.Elements.{All-more}
use Rattle.viz_sheet.proofs.RuleLemmas.{all_seen}
use Rattle.viz_sheet.proofs.rule.are_below.Goals as goal

pub loop-rank-preserved : goal.loop-rank-preserved
loop-rank-preserved c = All-more (λ r. r < c.args.count) c.args.cell.now c.loop-rank.rank-index 0 c.loop-rank-test.true c.loop-rank.invariant c.if-rank-count.false

pub returns : goal.returns
returns c = (λ _. all_seen (λ r. r < c.args.count) c.args.cell.now c.loop-rank.rank-index c.loop-rank-test.false c.loop-rank.invariant, λ _. search rules)
