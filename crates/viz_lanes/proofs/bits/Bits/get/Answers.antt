use Rattle.std.proofs.Common.{ℕ, ◌≤◌, ◌<◌, ◌/◌, ◌%◌, ◌^◌, ◌==◌, ◌∙◌, false, get_or, length, ap, arith}
use Rattle.std.proofs.lemmas.List.{get_or_default}
use Rattle.viz_lanes.proofs.BitLemmas.{bit_of_words, bit_of_last}
use Rattle.viz_lanes.proofs.bits.Bits.get.Goals as goal

pub returns-then-at-len : goal.returns-then-at-len
returns-then-at-len c =
    let bits = c.self.inside in
    let inside : c.args.i / 64 < length bits.words.items = omega (arith, c.if-at-len.true, c.len.ensures) in
    let word = c.index.ensures ∙ get_or_default bits.words.items (c.args.i / 64) c.index.result.now 0 inside in
    record {
      value = c.bit_at.ensures ∙ ap (λ (w : ℕ). w / 2 ^ (c.args.i % 64) % 2 == 1) word
          ∙ bit_of_words bits.words.items bits.used bits.last c.args.i inside
          ∙ ap (λ bs. get_or bs c.args.i false) c.self.view_is;
    }

pub returns-else-at-len : goal.returns-else-at-len
returns-else-at-len c =
    let bits = c.self.inside in
    let behind : length bits.words.items ≤ c.args.i / 64 = omega (arith, c.if-at-len.false, c.len.ensures) in
    let whole = ap (λ bs. length bs) c.self.view_is in
    record {
      value = c.bit_at-else-at-len.ensures
          ∙ bit_of_last bits.words.items bits.used bits.last c.args.i c.self.invariant.0 behind (omega (arith, whole, c.requires))
          ∙ ap (λ bs. get_or bs c.args.i false) c.self.view_is;
    }
