use Rattle.std.proofs.Common.{◌≡◌, ◌<◌, ◌∙◌, get_or, length, refl}
use Rattle.std.proofs.lemmas.List.{get_or_default}
use Rattle.viz_sheet.specs.Arrays.{points_in}
use Rattle.viz_clip.specs.Steps.Cuts.{IsNarrowCut, cut_point}
use Rattle.viz_cells.proofs.NumberLemmas.{all-more}
use Rattle.viz_clip.proofs.MoreLemmas.{behind-more}
use Rattle.viz_clip.proofs.kept_points.push_cuts.Goals as goal

pub loop-key-preserved : goal.loop-key-preserved
loop-key-preserved c =
    let values = c.args.values.now in
    let points = points_in c.args.places.now in
    let keys = c.args.keys.now in
    let i = c.loop-key.key-index in
    let x = get_or keys i 0 in
    let l : i < length keys = c.loop-key-test.true in
    let e : x ≡ get_or keys i x = get_or_default keys i 0 x l in
    let here = c.in_ok-cut_point.ensures in
    record {
      made = behind-more (cut_point values points) c.args.points.now.items c.loop-key.points.items _ keys i x _ l e c.in_ok-push.ensures.items c.loop-key.invariant.made here.value;
      narrow = all-more (IsNarrowCut values points) keys i x l e c.loop-key.invariant.narrow (here.succeeds.0 refl);
    }
