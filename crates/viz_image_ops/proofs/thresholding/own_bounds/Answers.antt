use Rattle.std.proofs.Common.{◌≡◌, to_z, of_z, ap, ap₂, ◌∙◌, arith, ◌<ℤ◌, ◌≤ℤ◌}
use Rattle.std.specs.Int.{w128, int_max, int_min}
use Rattle.std.proofs.lemmas.Int.{ints}
use Rattle.viz_column.specs.Kinds.{fits}
use Rattle.viz_image_ops.proofs.RangeLemmas.{AreBrought, low_fits, high_fits, select_same, select_none}
use Rattle.viz_image_ops.proofs.thresholding.own_bounds.Goals as goal

pub returns-then-hi-lo-clause-none : goal.returns-then-hi-lo-clause-none
returns-then-hi-lo-clause-none c =
    let lo : to_z w128 (of_z w128 c.from.result) ≡ c.args.lo.now = omega (arith, ints) in
    let hi : to_z w128 (of_z w128 c.from-2.result) ≡ c.args.hi.now = omega (arith, ints) in
    let least : to_z w128 (of_z w128 c.least.result) ≡ c.least.result = omega (arith, ints) in
    let most : to_z w128 (of_z w128 c.most.result) ≡ c.most.result = omega (arith, ints) in
    let past : c.lesser-hi.result <ℤ c.greater-lo.result = grind (arith, ints) in
    select_none c.args.kind c.args.lo.now c.args.hi.now c.greater-lo.result c.lesser-hi.result
    (record {
      least = c.least.result;
      most = c.most.result;
      is_least = c.least.ensures;
      is_most = c.most.ensures;
      low = c.greater-lo.ensures ∙ ap₂ int_max lo least;
      high = c.lesser-hi.ensures ∙ ap₂ int_min hi most;
    })
    past

brought : (c : goal.Else-hi-lo) → AreBrought c.args.kind c.args.lo.now c.args.hi.now c.greater-lo.result c.lesser-hi.result
brought c =
    let lo : to_z w128 (of_z w128 c.from.result) ≡ c.args.lo.now = omega (arith, ints) in
    let hi : to_z w128 (of_z w128 c.from-2.result) ≡ c.args.hi.now = omega (arith, ints) in
    let least : to_z w128 (of_z w128 c.least.result) ≡ c.least.result = omega (arith, ints) in
    let most : to_z w128 (of_z w128 c.most.result) ≡ c.most.result = omega (arith, ints) in
    record {
      least = c.least.result;
      most = c.most.result;
      is_least = c.least.ensures;
      is_most = c.most.ensures;
      low = c.greater-lo.ensures ∙ ap₂ int_max lo least;
      high = c.lesser-hi.ensures ∙ ap₂ int_min hi most;
    }

pub returns-clause-low : goal.returns-clause-low
returns-clause-low c =
    let order : c.greater-lo.result ≤ℤ c.lesser-hi.result = grind (arith, ints) in
    let kept : to_z w128 (of_z w128 c.greater-lo.result) ≡ c.greater-lo.result = omega (arith, ints) in
    ap (fits c.args.kind) kept ∙ low_fits c.args.kind c.args.lo.now c.args.hi.now c.greater-lo.result c.lesser-hi.result (brought c) order

pub returns-clause-high : goal.returns-clause-high
returns-clause-high c =
    let order : c.greater-lo.result ≤ℤ c.lesser-hi.result = grind (arith, ints) in
    let kept : to_z w128 (of_z w128 c.lesser-hi.result) ≡ c.lesser-hi.result = omega (arith, ints) in
    ap (fits c.args.kind) kept ∙ high_fits c.args.kind c.args.lo.now c.args.hi.now c.greater-lo.result c.lesser-hi.result (brought c) order

pub returns-clause-some : goal.returns-clause-some
returns-clause-some c =
    let low : to_z w128 (of_z w128 c.greater-lo.result) ≡ c.greater-lo.result = omega (arith, ints) in
    let high : to_z w128 (of_z w128 c.lesser-hi.result) ≡ c.lesser-hi.result = omega (arith, ints) in
    rw (low, high) (select_same c.args.kind c.args.lo.now c.args.hi.now c.greater-lo.result c.lesser-hi.result (brought c))
