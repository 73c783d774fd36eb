use Rattle.std.proofs.Common.{◌+◌, ap}
use Rattle.viz_clip.specs.Steps.Numbers.{cut_number}
use Rattle.viz_clip.proofs.CutLemmas.{number-of_key}
use Rattle.viz_clip.proofs.numbers.Numbers.cut.Goals as goal

pub returns : goal.returns
unfolding cut_number
returns c = record {
  value =
      ap (λ r. c.args.self.now.count + r)
      (number-of_key c.args.self.now.keys.items c.deref.result.now c.rank.result _ _ c.deref.ensures.value c.requires.ascending c.rank.ensures.below c.rank.ensures.value c.key.ensures.value);
}
