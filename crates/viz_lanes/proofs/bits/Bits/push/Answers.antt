use Rattle.std.proofs.Common.{◌∙◌, ◌++◌, ◌∷◌, [], ap}
use Rattle.viz_lanes.proofs.BitLemmas.{word_filled}
use Rattle.viz_lanes.proofs.bits.Bits.push.Goals as goal

pub returns-in_ok-push_to-clause-ok : goal.returns-in_ok-push_to-clause-ok
returns-in_ok-push_to-clause-ok c =
    let bits = c.self.inside in
    word_filled bits.words.items c.push_to.new.words.items bits.used bits.last c.with_bit-word.result c.args.bit
    c.if-self-eq63.true c.in_ok-push_to.ensures.ok c.with_bit-word.ensures.value
    ∙ ap (λ bs. bs ++ c.args.bit ∷ []) c.self.view_is
