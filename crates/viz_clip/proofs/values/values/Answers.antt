use Rattle.std.proofs.Common.{◌<◌, ◌∙◌, ◌++◌, ◌∷◌, [], ap, arith, length, refl, rules}
use Rattle.std.proofs.lemmas.Int.{to_z-of_z}
use Rattle.std.specs.Int.{w128}
use Rattle.viz_fraction.specs.Forms.{IsNarrowValue, value_of}
use Rattle.viz_sheet.specs.Arrays.{points_in}
use Rattle.viz_cells.proofs.NumberLemmas.{map-more, all-more}
use Rattle.viz_clip.proofs.values.values.Goals as goal

pub loop-rank-preserved : goal.loop-rank-preserved
loop-rank-preserved c =
    let f = c.args.form.now in
    let points = points_in c.args.places.now in
    let i = c.loop-rank.rank in
    let l : i < length points = omega (arith, c.loop-rank-test.true, c.len-rank-end.ensures.value) in
    let here = c.in_ok-value.ensures in
    let whole = to_z-of_z w128 c.in_ok-value.field-0 (search rules) in
    let old = c.loop-rank.values.items in
    record {
      made = c.in_ok-push.ensures.items ∙ ap (λ v. old ++ v ∷ []) whole ∙ map-more (value_of f) points i c.get.result c.loop-rank.values.items _ l c.get.ensures.value c.loop-rank.invariant.made here.value;
      narrow = all-more (IsNarrowValue f) points i c.get.result l c.get.ensures.value c.loop-rank.invariant.narrow (here.succeeds.0 refl);
    }
