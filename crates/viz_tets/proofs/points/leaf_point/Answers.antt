use Rattle.std.proofs.Common.{◌∙◌}
use Rattle.viz_tets.proofs.LeafLemmas.{point-leaf}
use Rattle.viz_tets.proofs.points.leaf_point.Goals as goal

pub returns : goal.returns
returns c = record {
  value =
      let at = c.place_of-i.result in
      c.point.ensures.value
      ∙ point-leaf c.args.image.now c.extent.result at.0 at.1 at.2 c.args.leaf c.extent.ensures.value c.place_of-i.ensures.has (c.place_of-i.ensures.number ∙ c.from.ensures);
}
