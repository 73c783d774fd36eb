use Rattle.viz_strip.proofs.SideLemmas.{sides-of}
use Rattle.viz_strip.proofs.choice.ranked_strips.Goals as goal

pub chosen-requires-clause-sides : goal.chosen-requires-clause-sides
chosen-requires-clause-sides c = sides-of c.args.triangles.now c.args.points c.requires.triangles c.requires.below
