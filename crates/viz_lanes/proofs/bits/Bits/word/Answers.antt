use Rattle.std.proofs.Common.{◌+◌, ◌*◌, ◌<◌, ◌==◌, ◌≡◌, ◌∙◌, false, get_or, length, ap, arith}
use Rattle.std.specs.Int.{bit_at}
use Rattle.std.proofs.lemmas.List.{get_or_default}
use Rattle.viz_lanes.proofs.BitLemmas.{bit_of_word, bit_behind, none_behind}
use Rattle.viz_lanes.proofs.bits.Bits.word.Goals as goal

pub returns-then-i-count : goal.returns-then-i-count
returns-then-i-count c t l =
    let bits = c.self.inside in
    let inside : c.args.i < length bits.words.items = omega (arith, c.if-i-count.true, c.len-count.ensures) in
    let word = c.index.ensures ∙ get_or_default bits.words.items c.args.i c.index.result.now 0 inside in
    ap (λ w. bit_at w t == 1) word
    ∙ bit_of_word bits.words.items bits.used bits.last c.args.i t inside l
    ∙ ap (λ bs. get_or bs (64 * c.args.i + t) false) c.self.view_is

pub returns-then-i-count-2 : goal.returns-then-i-count-2
returns-then-i-count-2 c t l =
    let bits = c.self.inside in
    let here : c.args.i ≡ length bits.words.items = omega (arith, c.if-i-count-2.true, c.len-count.ensures) in
    bit_behind bits.words.items bits.used bits.last c.args.i t c.self.invariant.0 c.self.invariant.1 here l
    ∙ ap (λ bs. get_or bs (64 * c.args.i + t) false) c.self.view_is

pub returns-else-i-count-2 : goal.returns-else-i-count-2
returns-else-i-count-2 c t l =
    let bits = c.self.inside in
    let past : length bits.words.items < c.args.i = omega (arith, c.if-i-count.false, c.if-i-count-2.false, c.len-count.ensures) in
    none_behind bits.words.items bits.used bits.last c.args.i t c.self.invariant.0 past
    ∙ ap (λ bs. get_or bs (64 * c.args.i + t) false) c.self.view_is
