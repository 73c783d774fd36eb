use Rattle.std.proofs.Common.{◌≡◌, ◌<◌, ◌≤◌, ℕ, List, [], length, subst, arith, rules}
use Rattle.std.proofs.lemmas.List.Elements.{All-more}
use Rattle.viz_sheet.specs.Arrays.{ranks_in}
use Rattle.viz_sheet.proofs.RuleLemmas.{all_seen}
use Rattle.viz_clip.proofs.cell_test.are_tetrahedra.Goals as goal

abbrev HasFour : List ℕ → Type 0
HasFour cell = length cell ≡ 4

pub loop-i-preserved : goal.loop-i-preserved
loop-i-preserved c =
    let cells = ranks_in c.args.ranks.now in
    let l : c.loop-i.i < length cells = omega (arith, c.loop-i-test.true, c.len-i-end.ensures.value) in
    All-more HasFour cells c.loop-i.i [] l c.loop-i.invariant
    (subst HasFour c.get.ensures.value (c.is_tetrahedron.ensures.value.0 c.if-not-is_tetrahedron.false))

pub returns : goal.returns
returns c =
    let cells = ranks_in c.args.ranks.now in
    let l : length cells ≤ c.loop-i.i = omega (arith, c.loop-i-test.false, c.len-i-end.ensures.value) in
    record { value = (λ _. all_seen HasFour cells c.loop-i.i l c.loop-i.invariant, λ _. search rules) }
