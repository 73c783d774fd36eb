use Rattle.viz_sheet.specs.Arrays.{points_in}
use Rattle.viz_merge.proofs.PassLemmas.{sheet-keys}
use Rattle.viz_merge.proofs.keys.all_keys.Goals as goal

pub loop-sheet-preserved : goal.loop-sheet-preserved
loop-sheet-preserved c = record {
  made =
      sheet-keys c.args.sheets.now c.loop-sheet.sheet-index c.sheet-item.result c.loop-sheet.keys.items c.push_keys.new.keys.items (points_in c.places.result.now)
      c.loop-sheet-test.true c.sheet-item.is c.places.ensures.value c.loop-sheet.invariant.made c.in_ok-push_keys.ensures.value;
  few = c.in_ok-push_keys.ensures.few;
}
