use Rattle.std.proofs.Common.{◌-◌, ◌<◌, ◌≤◌, List, ℕ, length, true≢false, ap₂, sym, ◌∙◌, arith, rules}
use Rattle.std.specs.Cmp.Lexicographic.{slice_cmp}
use Rattle.std.specs.Ordering.{nat_cmp, is_lt}
use Rattle.viz_sheet.specs.Arrays.{names_in}
use Rattle.viz_sheet.proofs.RuleLemmas.{ascending_from_neighbours, neighbours_ascend}
use Rattle.viz_sheet.proofs.rule.are_ascending.Goals as goal

pub returns-then-not-is_before : goal.returns-then-not-is_before
returns-then-not-is_before c =
    let names = names_in c.args.leaves.now in
    let rank = c.loop-rank.rank in
    let from : 1 ≤ rank = c.loop-rank.auto.rank in
    let l : rank < length names = omega (arith, c.loop-rank-test.true, c.len-rank-end.ensures.value) in (
      λ h. absurd (true≢false (sym h)),
      λ s. absurd (true≢false (sym (c.is_before.ensures ∙ ap₂ (λ (a b : List ℕ). is_lt (slice_cmp nat_cmp a b)) c.get.ensures.value c.get-in-loop-rank.ensures.value
          ∙ neighbours_ascend names (rank - 1) rank s (omega (arith, from)) l) ∙ c.if-not-is_before.true)),
    )

pub returns : goal.returns
returns c =
    let names = names_in c.args.leaves.now in
    let l : length names ≤ c.loop-rank.rank = omega (arith, c.loop-rank-test.false, c.len-rank-end.ensures.value) in
    (λ _. ascending_from_neighbours names (λ k b. c.loop-rank.invariant k (omega (arith, l, b))), λ _. search rules)
