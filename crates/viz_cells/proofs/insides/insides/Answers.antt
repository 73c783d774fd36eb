use Rattle.std.proofs.Common.{◌<◌, ◌∙◌, arith, length, refl}
use Rattle.viz_fraction.specs.Forms.{IsNarrowValue}
use Rattle.viz_sheet.specs.Arrays.{points_in}
use Rattle.viz_meaning.specs.Section.{is_inside_at}
use Rattle.viz_cells.proofs.NumberLemmas.{map-more, all-more}
use Rattle.viz_cells.proofs.insides.insides.Goals as goal

pub loop-rank-preserved : goal.loop-rank-preserved
loop-rank-preserved c =
    let f = c.args.form.now in
    let points = points_in c.args.places.now in
    let i = c.loop-rank.rank in
    let l : i < length points = omega (arith, c.loop-rank-test.true, c.len-rank-end.ensures.value) in
    let here = c.in_ok-is_inside_at.ensures in
    record {
      made = c.in_ok-push.ensures.items ∙ map-more (is_inside_at f) points i c.get.result c.loop-rank.inside.items _ l c.get.ensures.value c.loop-rank.invariant.made here.value;
      narrow = all-more (IsNarrowValue f) points i c.get.result l c.get.ensures.value c.loop-rank.invariant.narrow (here.succeeds.0 refl);
    }
