use Rattle.std.proofs.Common.{◌==◌, ap, refl, ◌∙◌}
use Rattle.std.specs.Int.{bit_at}
use Rattle.viz_mixed.specs.Mixed.{is_mixed}
use Rattle.viz_mixed.proofs.WordLemmas.{each_of_eight, flag-is}
use Rattle.viz_mixed.proofs.corners.mixed_of.Goals as goal

pub returns : goal.returns
returns c = record {
  value = λ t l.
      flag-is _ _ (c.mix.ensures t l)
      ∙ ap is_mixed (each_of_eight (λ word. bit_at word t == 1) 0 c.args.words.now c.told-words _ _ _ _ _ _ _ _ refl refl refl refl refl refl refl refl);
}
