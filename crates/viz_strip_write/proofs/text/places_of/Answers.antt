use Rattle.std.proofs.Common.{◌∙◌}
use Rattle.viz_strip_write.proofs.FitLemmas.{points-alone}
use Rattle.viz_strip_write.proofs.text.places_of.Goals as goal

pub returns : goal.returns
returns c = c.places.ensures.value ∙ points-alone c.args.sheet.now
