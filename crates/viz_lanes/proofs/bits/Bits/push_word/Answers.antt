use Rattle.std.proofs.Common.{◌%◌, ◌∙◌, ◌++◌, length, ap}
use Rattle.viz_lanes.specs.Kept.{low_bits}
use Rattle.viz_lanes.proofs.BitLemmas.{word_added}
use Rattle.viz_lanes.proofs.bits.Bits.push_word.Goals as goal

pub returns-clause-ok : goal.returns-clause-ok
returns-clause-ok c =
    let bits = c.self.inside in
    word_added bits.words.items c.push_to.new.words.items bits.used bits.last c.args.word c.self.invariant.0
    (ap (λ bs. length bs % 64) c.self.view_is ∙ c.requires) c.in_ok-push_to.ensures.ok
    ∙ ap (λ bs. bs ++ low_bits 64 c.args.word) c.self.view_is
