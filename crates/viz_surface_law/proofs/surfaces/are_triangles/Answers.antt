use Rattle.std.proofs.Common.{◌≡◌, ℕ, ◌<◌, ◌≤◌, List, [], length, get_or, sym, ap, ◌∙◌, arith, rules}
use Rattle.std.proofs.lemmas.List.Elements.{All-more}
use Rattle.viz_grid_section.proofs.MembersLemmas.{length-map_of}
use Rattle.viz_sheet.proofs.RuleLemmas.{all_seen}
use Rattle.viz_surface_law.proofs.surfaces.are_triangles.Goals as goal

pub loop-i-preserved : goal.loop-i-preserved
loop-i-preserved c =
    let cells = c.args.sheet.now.cells in
    let l : c.loop-i.i < length cells = omega (arith, c.loop-i-test.true, c.cell_count-i-end.ensures.value) in
    let three : length c.cell.result.now ≡ 3 = omega (arith, c.if-cell-ne3.false) in
    All-more (λ (cell : List (List ℕ)). length cell ≡ 3) cells c.loop-i.i [] l c.loop-i.invariant
    (sym (ap (λ (cell : List (List ℕ)). length cell) c.cell.ensures.names)
    ∙ length-map_of (λ r. get_or c.args.sheet.now.names r []) c.cell.result.now ∙ three)

pub returns : goal.returns
returns c =
    let cells = c.args.sheet.now.cells in
    let l : length cells ≤ c.loop-i.i = omega (arith, c.loop-i-test.false, c.cell_count-i-end.ensures.value) in
    (λ _. all_seen (λ (cell : List (List ℕ)). length cell ≡ 3) cells c.loop-i.i l c.loop-i.invariant, λ _. search rules)
