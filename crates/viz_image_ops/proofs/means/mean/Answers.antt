use Rattle.std.proofs.Common.{◌≡◌, to_z, of_z, ap, ◌∙◌, arith}
use Rattle.std.specs.Int.{w128}
use Rattle.std.proofs.lemmas.Int.{ints}
use Rattle.viz_column.specs.Kinds.{fits}
use Rattle.viz_image_ops.proofs.MeanLemmas.{mean_fits}
use Rattle.viz_image_ops.proofs.means.mean.Goals as goal

pub own-requires : goal.own-requires
own-requires g c =
    let kind = g.T.Number.kind in
    let kept : to_z w128 (of_z w128 c.quotient.result) ≡ c.quotient.result = omega (arith, ints) in
    ap (fits kind) (kept ∙ c.quotient.ensures) ∙ mean_fits kind c.args.sum.now c.args.count.now.number c.args.count.now.some c.requires
