use Rattle.std.proofs.Common.{◌∙◌}
use Rattle.viz_boundary.proofs.LoneLemmas.{alone-is}
use Rattle.viz_boundary.proofs.lone.is_alone.Goals as goal

pub returns : goal.returns
returns c =
    c.both.ensures
    ∙ alone-is c.args.sorted.now c.args.at c.requires.within c.requires.sorted c.begins.result c.ends.result c.begins.ensures.yes c.begins.ensures.no c.ends.ensures.yes c.ends.ensures.no
