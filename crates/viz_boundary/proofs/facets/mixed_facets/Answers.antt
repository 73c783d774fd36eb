use Rattle.std.proofs.Common.{◌≡◌, ◌+◌, ◌≤◌, ◌∙◌, ap, arith, get_or, length, sym, take}
use Rattle.std.specs.List.{flat_map}
use Rattle.std.proofs.lemmas.List.{get_or_default}
use Rattle.viz_sheet.specs.Kept.{kept}
use Rattle.viz_mesh_meaning.specs.Facets.{facets_of}
use Rattle.viz_boundary.proofs.LoopLemmas.{IsUpTo, one-more, room-for}
use Rattle.viz_boundary.proofs.facets.mixed_facets.Goals as goal

pub push_mixed-requires-clause-room : goal.push_mixed-requires-clause-room
push_mixed-requires-clause-room c =
    let cells = c.args.cells.now in
    let i = c.loop-cell.cell-index in
    let cell = c.ranks-ranks.result.now in
    let is : cell ≡ get_or cells i cell = c.ranks-ranks.ensures.value ∙ c.cell-item.is ∙ get_or_default cells i c.cell-item.result cell c.loop-cell-test.true in
    room-for cells c.args.marks.now i c.loop-cell.at cell c.requires.matched c.loop-cell-test.true is c.loop-cell.invariant.place

pub overflow_add-at : goal.overflow_add-at
overflow_add-at c =
    let cells = c.args.cells.now in
    let i = c.loop-cell.cell-index in
    let cell = c.ranks-ranks.result.now in
    let is : cell ≡ get_or cells i cell = c.ranks-ranks.ensures.value ∙ c.cell-item.is ∙ get_or_default cells i c.cell-item.result cell c.loop-cell-test.true in
    let room : c.loop-cell.at + length (facets_of cell) ≤ length c.args.marks.now =
    room-for cells c.args.marks.now i c.loop-cell.at cell c.requires.matched c.loop-cell-test.true is c.loop-cell.invariant.place in
    omega (arith, room, c.facet_count-at.ensures)

pub loop-cell-preserved : goal.loop-cell-preserved
loop-cell-preserved c =
    let cells = c.args.cells.now in
    let i = c.loop-cell.cell-index in
    let at = c.loop-cell.at in
    let marks = c.args.marks.now in
    let cell = c.ranks-ranks.result.now in
    let is : cell ≡ get_or cells i cell = c.ranks-ranks.ensures.value ∙ c.cell-item.is ∙ get_or_default cells i c.cell-item.result cell c.loop-cell-test.true in
    let count = c.facet_count-at.ensures in
    let up : IsUpTo cells marks (i + 1) (at + length (facets_of cell)) c.push_mixed.new.out.items =
    one-more cells marks i at cell c.loop-cell.out.items c.push_mixed.new.out.items c.requires.matched c.loop-cell-test.true is
    c.loop-cell.invariant.place c.loop-cell.invariant.made c.in_ok-push_mixed.ensures in
    record {
      place = ap (λ n. at + n) count ∙ up.place;
      made = up.made ∙ ap (λ n. kept (take (at + n) marks) (flat_map facets_of (take (i + 1) cells))) (sym count);
    }
