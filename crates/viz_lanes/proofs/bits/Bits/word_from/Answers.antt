use Rattle.std.proofs.Common.{◌==◌, ◌^◌, ◌<◌, ◌∙◌, ap}
use Rattle.viz_lanes.proofs.BitLemmas.{bit_of_two}
use Rattle.viz_lanes.proofs.bits.Bits.word_from.Goals as goal

pub returns : goal.returns
returns c =
    let below : c.word.result < 2 ^ 64 = c.word.type_inv in
    record {
      value = λ t l.
          ap (λ k. k == 1) (c.joined.ensures t l)
          ∙ bit_of_two c.args.self.now c.args.at t c.word.result c.word-2.result below l c.word.ensures c.word-2.ensures;
    }
