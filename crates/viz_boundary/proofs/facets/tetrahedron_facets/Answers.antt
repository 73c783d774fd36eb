use Rattle.std.proofs.Common.{◌≡◌, ◌+◌, ◌≤◌, ◌++◌, ◌∙◌, [], ap, arith, drop, get_or, length, sym, take}
use Rattle.std.specs.List.{flat_map}
use Rattle.std.proofs.lemmas.List.{get_or_default}
use Rattle.viz_sheet.specs.Kept.{kept}
use Rattle.viz_mesh_meaning.specs.Facets.{facets_of}
use Rattle.viz_boundary.proofs.LoopLemmas.{IsUpTo, one-more, room-for, four-count}
use Rattle.viz_boundary.proofs.facets.tetrahedron_facets.Goals as goal

pub push_sides-requires : goal.push_sides-requires
push_sides-requires c =
    let cells = c.args.cells.now in
    let i = c.loop-cell.cell-index in
    let cell = get_or cells i [] in
    let count = four-count cell (c.told-cells i c.loop-cell-test.true) in
    let room : c.loop-cell.at + length (facets_of cell) ≤ length c.args.marks.now =
    room-for cells c.args.marks.now i c.loop-cell.at cell c.requires.matched c.loop-cell-test.true (get_or_default cells i [] cell c.loop-cell-test.true) c.loop-cell.invariant.place in
    record { room = omega (arith, count, room) }

pub overflow_add-at : goal.overflow_add-at
overflow_add-at c =
    let cells = c.args.cells.now in
    let i = c.loop-cell.cell-index in
    let cell = get_or cells i [] in
    let count = four-count cell (c.told-cells i c.loop-cell-test.true) in
    let room : c.loop-cell.at + length (facets_of cell) ≤ length c.args.marks.now =
    room-for cells c.args.marks.now i c.loop-cell.at cell c.requires.matched c.loop-cell-test.true (get_or_default cells i [] cell c.loop-cell-test.true) c.loop-cell.invariant.place in
    omega (arith, count, room)

pub loop-cell-preserved : goal.loop-cell-preserved
loop-cell-preserved c =
    let cells = c.args.cells.now in
    let i = c.loop-cell.cell-index in
    let at = c.loop-cell.at in
    let marks = c.args.marks.now in
    let cell = get_or cells i [] in
    let old = c.loop-cell.out.items in
    let count = four-count cell (c.told-cells i c.loop-cell-test.true) in
    let more : c.push_sides.new.out.items ≡ old ++ kept (take (length (facets_of cell)) (drop at marks)) (facets_of cell) =
    c.in_ok-push_sides.ensures ∙ ap (λ n. old ++ kept (take n (drop at marks)) (facets_of cell)) (sym count) in
    let up : IsUpTo cells marks (i + 1) (at + length (facets_of cell)) c.push_sides.new.out.items =
    one-more cells marks i at cell old c.push_sides.new.out.items c.requires.matched c.loop-cell-test.true (get_or_default cells i [] cell c.loop-cell-test.true)
    c.loop-cell.invariant.place c.loop-cell.invariant.made more in
    record {
      place = ap (λ n. at + n) (sym count) ∙ up.place;
      made = up.made ∙ ap (λ n. kept (take (at + n) marks) (flat_map facets_of (take (i + 1) cells))) count;
    }
