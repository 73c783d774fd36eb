use Rattle.std.proofs.Common.{◌<◌, ◌≤◌, ℕ, List, [], length, get_or, map, sym, subst, arith, rules}
use Rattle.std.proofs.lemmas.List.{length-map}
use Rattle.std.proofs.lemmas.List.Elements.{All-more}
use Rattle.viz_sheet.proofs.RuleLemmas.{all_seen}
use Rattle.viz_reshape.proofs.strips.has_small_cells.Goals as goal

abbrev IsSmall : List (List ℕ) → Type 0
IsSmall cell = length cell ≤ 3

pub loop-i-preserved : goal.loop-i-preserved
loop-i-preserved c =
    let cells = c.args.sheet.now.cells in
    let names = c.args.sheet.now.names in
    let l : c.loop-i.i < length cells = omega (arith, c.loop-i-test.true, c.cell_count-i-end.ensures.value) in
    let size = length-map c.cell.result.now (λ (r : ℕ). get_or names r []) in
    let small : length (map (λ (r : ℕ). get_or names r []) c.cell.result.now) ≤ 3 = subst (λ (n : ℕ). n ≤ 3) (sym size) c.if-cell-gt3.false in
    All-more IsSmall cells c.loop-i.i [] l c.loop-i.invariant (subst IsSmall c.cell.ensures.names small)

pub returns : goal.returns
returns c =
    let cells = c.args.sheet.now.cells in
    let l : length cells ≤ c.loop-i.i = omega (arith, c.loop-i-test.false, c.cell_count-i-end.ensures.value) in
    record { value = (λ _. all_seen IsSmall cells c.loop-i.i l c.loop-i.invariant, λ _. search rules) }
