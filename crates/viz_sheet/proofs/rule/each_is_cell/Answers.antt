use Rattle.std.proofs.Common.{◌<◌, ◌≤◌, [], length, subst, arith, rules}
use Rattle.std.proofs.lemmas.List.Elements.{All-more}
use Rattle.viz_sheet.specs.Arrays.{ranks_in}
use Rattle.viz_sheet.specs.Ranked.{IsCell}
use Rattle.viz_sheet.proofs.RuleLemmas.{all_seen}
use Rattle.viz_sheet.proofs.rule.each_is_cell.Goals as goal

pub loop-i-preserved : goal.loop-i-preserved
loop-i-preserved c =
    let cells = ranks_in c.args.ranks.now in
    let l : c.loop-i.i < length cells = omega (arith, c.loop-i-test.true, c.len-i-end.ensures.value) in
    All-more (IsCell c.args.count) cells c.loop-i.i [] l c.loop-i.invariant
    (subst (IsCell c.args.count) c.get.ensures.value (c.is_cell.ensures.value.0 c.if-not-is_cell.false))

pub returns : goal.returns
returns c =
    let cells = ranks_in c.args.ranks.now in
    let l : length cells ≤ c.loop-i.i = omega (arith, c.loop-i-test.false, c.len-i-end.ensures.value) in
    (λ _. all_seen (IsCell c.args.count) cells c.loop-i.i l c.loop-i.invariant, λ _. search rules)
