use Rattle.std.proofs.Common.{ℕ, ◌≤◌, [], arith, below_more, get_or, length, subst, sym, ap, ◌∙◌}
use Rattle.std.proofs.lemmas.List.{length-map}
use Rattle.std.proofs.lemmas.List.Elements.{All-from_get_or}
use Rattle.viz_strip_tests.proofs.flat.is_small.Goals as goal

pub loop-i-preserved : goal.loop-i-preserved
loop-i-preserved c =
    let names = c.args.sheet.now.names in
    let cell = c.cell.result.now in
    let same = sym (length-map cell (λ (r : ℕ). get_or names r [])) ∙ ap length c.cell.ensures.names in
    below_more _ _ c.loop-i.invariant (subst (λ (n : ℕ). n ≤ 3) same c.if-cell-gt3.false)

pub returns : goal.returns
returns c _ = All-from_get_or (λ cell. length cell ≤ 3) c.args.sheet.now.cells [] (λ k l. c.loop-i.invariant k (omega (arith, l, c.loop-i-test.false, c.cell_count-i-end.ensures.value)))
