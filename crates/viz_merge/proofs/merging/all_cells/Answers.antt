use Rattle.std.proofs.Common.{◌++◌, ◌∙◌, ap, arith, drop, length, take}
use Rattle.std.proofs.lemmas.List.{length-append}
use Rattle.viz_mesh_meaning.specs.Merge.{all_points, cells_by_leaves, firsts, has_no_repeat}
use Rattle.viz_merge.specs.Steps.Cells.{left_by_names}
use Rattle.viz_merge.proofs.CellLemmas.{filter-one_sheet, left-is, numbers-size, points-more, points-room}
use Rattle.viz_merge.proofs.merging.all_cells.Goals as goal

pub push_sheet-requires : goal.push_sheet-requires
push_sheet-requires c = record {
  room =
      omega (arith, points-room c.args.sheets.now c.loop-sheet.sheet-index c.sheet-item.result c.loop-sheet-test.true c.sheet-item.is, c.loop-sheet.invariant.place, numbers-size (all_points c.args.sheets.now) c.args.numbers.now c.requires.numbers);
}

pub overflow_add-at : goal.overflow_add-at
overflow_add-at c =
    omega (
      arith,
      points-room c.args.sheets.now c.loop-sheet.sheet-index c.sheet-item.result c.loop-sheet-test.true c.sheet-item.is,
      c.loop-sheet.invariant.place,
      numbers-size (all_points c.args.sheets.now) c.args.numbers.now c.requires.numbers,
      c.len-count.ensures.value,
      ap length c.places.ensures.value,
    )

pub loop-sheet-preserved : goal.loop-sheet-preserved
loop-sheet-preserved c =
    let sheets = c.args.sheets.now in
    let i = c.loop-sheet.sheet-index in
    let s = c.sheet-item.result in
    let numbers = c.args.numbers.now in
    let old = c.loop-sheet.out.items in
    record {
      place =
          omega (arith, c.loop-sheet.invariant.place, c.len-count.ensures.value, ap length c.places.ensures.value, ap length (points-more sheets i s c.loop-sheet-test.true c.sheet-item.is), length-append (all_points (take i sheets)) s.points);
      made =
          filter-one_sheet sheets i s (cells_by_leaves (firsts (all_points sheets))) has_no_repeat old c.push_sheet.new.out.items c.loop-sheet-test.true c.sheet-item.is c.loop-sheet.invariant.made
          (c.in_ok-push_sheet.ensures.value
          ∙ ap (λ t. old ++ t) (ap (λ n. left_by_names (drop n numbers) s) c.loop-sheet.invariant.place ∙ left-is sheets i s numbers c.in_ok-push_sheet.ensures.valid c.loop-sheet-test.true c.sheet-item.is c.requires.numbers));
    }
