use Rattle.std.proofs.Common.{rules}
use Rattle.viz_image_ops.proofs.KeptLemmas.{map-zeros}
use Rattle.viz_image_ops.proofs.thresholding.zeros.Goals as goal

pub returns : goal.returns
returns g c =
    let value = g.T.Number.value in
    map-zeros value c.args.count c.zero.result c.new-numbers.result.items c.resize.new.self.items c.zero.ensures.value c.new-numbers.ensures.items
    (search rules)
