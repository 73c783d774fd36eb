use Rattle.viz_reshape.proofs.WorkLemmas.{is-flat}
use Rattle.viz_reshape.proofs.strips.flat_strips.Goals as goal

pub counted_strip_text-requires : goal.counted_strip_text-requires
counted_strip_text-requires c = record { flat = is-flat c.args.mesh.now c.requires.one c.requires.small }
