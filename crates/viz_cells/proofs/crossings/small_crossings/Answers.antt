use Rattle.std.proofs.Common.{◌≡◌, ◌<◌, ◌∙◌, get_or, length, refl}
use Rattle.std.proofs.lemmas.List.{get_or_default}
use Rattle.viz_sheet.specs.Arrays.{points_in}
use Rattle.viz_cells.specs.Steps.Crossings.{key_crossing, IsNarrowKey}
use Rattle.viz_cells.proofs.NumberLemmas.{map-more, all-more}
use Rattle.viz_cells.proofs.crossings.small_crossings.Goals as goal

pub loop-key-preserved : goal.loop-key-preserved
loop-key-preserved c =
    let f = c.args.form.now in
    let points = points_in c.args.places.now in
    let keys = c.args.keys.now in
    let i = c.loop-key.key-index in
    let x = get_or keys i 0 in
    let l : i < length keys = c.loop-key-test.true in
    let e : x ≡ get_or keys i x = get_or_default keys i 0 x l in
    let here = c.in_ok-crossing_at.ensures in
    record {
      made = c.in_ok-push-in-Some.ensures.items ∙ map-more (key_crossing f points) keys i x c.loop-key.points.items _ l e c.loop-key.invariant.made (c.in-Some.ensures.value ∙ c.in_ok-crossing_at.ensures.value);
      narrow = all-more (IsNarrowKey f points) keys i x l e c.loop-key.invariant.narrow (here.succeeds.0 refl);
    }
