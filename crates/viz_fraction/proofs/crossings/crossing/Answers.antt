use Rattle.std.proofs.Common.{pos, ap, ◌∙◌}
use Rattle.std.proofs.lemmas.Int.{to_z-of_z}
use Rattle.std.specs.Int.{w128}
use Rattle.viz_fraction.specs.Points.{reduced}
use Rattle.viz_fraction.specs.Crossings.{outside_weight, inside_weight}
use Rattle.viz_fraction.proofs.FieldsLemmas.{kept}
use Rattle.viz_fraction.proofs.CrossingsLemmas.{mixed-unreduced, narrow_crossing}
use Rattle.viz_fraction.proofs.crossings.crossing.Goals as goal

pub returns-clause-value : goal.returns-clause-value
returns-clause-value c =
    let la = to_z-of_z w128 c.args.la c.ranges.la in
    let lb = to_z-of_z w128 c.args.lb c.ranges.lb in
    let outside = c.weights_of.ensures.outside ∙ ap (λ n. pos (outside_weight n (kept c.args.lb))) la ∙ ap (λ n. pos (outside_weight c.args.la n)) lb in
    let inside = c.weights_of.ensures.inside ∙ ap (λ n. pos (inside_weight n (kept c.args.lb))) la ∙ ap (λ n. pos (inside_weight c.args.la n)) lb in
    let same = mixed-unreduced c.weights_of.result c.numbers.result c.numbers-2.result c.args.la c.args.a.now c.args.lb c.args.b.now outside inside c.numbers.ensures.value c.numbers-2.ensures.value in
    rw (ap reduced same) at c.crossing_at.ensures.value

pub returns-clause-succeeds : goal.returns-clause-succeeds
returns-clause-succeeds c =
    let la = to_z-of_z w128 c.args.la c.ranges.la in
    let lb = to_z-of_z w128 c.args.lb c.ranges.lb in
    let outside = c.weights_of.ensures.outside ∙ ap (λ n. pos (outside_weight n (kept c.args.lb))) la ∙ ap (λ n. pos (outside_weight c.args.la n)) lb in
    let inside = c.weights_of.ensures.inside ∙ ap (λ n. pos (inside_weight n (kept c.args.lb))) la ∙ ap (λ n. pos (inside_weight c.args.la n)) lb in
    let same = narrow_crossing c.weights_of.result c.numbers.result c.numbers-2.result c.args.la c.args.a.now c.args.lb c.args.b.now outside inside c.numbers.ensures.value c.numbers-2.ensures.value in
    (λ ok. same.0 (c.crossing_at.ensures.succeeds.0 ok), λ narrow. c.crossing_at.ensures.succeeds.1 (same.1 narrow))
