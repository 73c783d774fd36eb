use Rattle.std.proofs.Common.{ℕ, pos, replicate, map, ap, ◌∙◌, sym}
use Rattle.std.proofs.lemmas.List.{length-map}
use Rattle.viz_image_ops.proofs.KeptLemmas.{column_within, column_none}
use Rattle.viz_image_ops.proofs.thresholding.keep.Goals as goal

pub returns-in_ok-keep_within-in-Some : goal.returns-in_ok-keep_within-in-Some
returns-in_ok-keep_within-in-Some g c =
    let value = g.T.Number.value in
    let xs = map value c.args.numbers.now in
    column_within g.T.Number.kind c.args.lo.now c.args.hi.now (value c.in-Some.own.0) (value c.in-Some.own.1) xs _ c.of.result c.of.ensures.value c.requires.own
    c.in-Some.ensures.some c.in_ok-keep_within-in-Some.ensures

pub returns-in_ok-zeros-in-None : goal.returns-in_ok-zeros-in-None
returns-in_ok-zeros-in-None g c =
    let value = g.T.Number.value in
    let xs = map value c.args.numbers.now in
    let zeros = c.in_ok-zeros-in-None.ensures ∙ ap (λ (n : ℕ). replicate n (pos 0)) (sym (length-map c.args.numbers.now value)) in
    column_none g.T.Number.kind c.args.lo.now c.args.hi.now xs _ c.of-in-None.result c.of-in-None.ensures.value c.requires.own c.in-None.ensures.none zeros
