use Rattle.std.proofs.Common.{◌≡◌, ◌+◌, ◌≤◌, ◌∙◌, true, ap, arith, length, rules}
use Rattle.viz_sheet.specs.Arrays.{points_in}
use Rattle.viz_merge.proofs.PassLemmas.{AreKept, sheet-kept, sheet-room}
use Rattle.viz_merge.proofs.groups.small_points.Goals as goal

pub push_small-requires : goal.push_small-requires
push_small-requires c = record {
  room =
      sheet-room c.args.marks.now c.args.sheets.now c.loop-sheet.sheet-index c.sheet-item.result c.loop-sheet.at (points_in c.places-places.result.now)
      c.requires.matched c.loop-sheet-test.true c.sheet-item.is c.places-places.ensures.value c.loop-sheet.invariant.place;
}

pub overflow_add-at : goal.overflow_add-at
overflow_add-at c =
    let room : c.loop-sheet.at + length (points_in c.places-places.result.now) ≤ length c.args.marks.now =
    sheet-room c.args.marks.now c.args.sheets.now c.loop-sheet.sheet-index c.sheet-item.result c.loop-sheet.at (points_in c.places-places.result.now)
    c.requires.matched c.loop-sheet-test.true c.sheet-item.is c.places-places.ensures.value c.loop-sheet.invariant.place in
    omega (arith, room, c.len-count.ensures.value)

pub loop-sheet-preserved : goal.loop-sheet-preserved
loop-sheet-preserved c =
    let ps = points_in c.places-places.result.now in
    let yes : c.in_ok-push_small.field-0 ≡ true = search rules in
    let up : AreKept c.args.marks.now c.args.sheets.now (c.loop-sheet.sheet-index + 1) (c.loop-sheet.at + c.len-count.result) c.push_small.new.points.items =
    sheet-kept c.args.marks.now c.args.sheets.now c.loop-sheet.sheet-index c.sheet-item.result c.loop-sheet.at c.len-count.result c.loop-sheet.points.items c.push_small.new.points.items ps
    c.requires.matched c.loop-sheet-test.true c.sheet-item.is c.places-places.ensures.value (c.len-count.ensures.value ∙ ap length c.places-places.ensures.value)
    (record { place = c.loop-sheet.invariant.place; made = c.loop-sheet.invariant.made }) (c.in_ok-push_small.ensures.value yes) in
    record { place = up.place; made = up.made }
