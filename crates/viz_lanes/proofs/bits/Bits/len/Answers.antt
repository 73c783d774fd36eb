use Rattle.std.proofs.Common.{length, ap, ◌∙◌, arith}
use Rattle.viz_lanes.proofs.BitLemmas.{length-bits}
use Rattle.viz_lanes.proofs.bits.Bits.len.Goals as goal

pub returns : goal.returns
returns c =
    let bits = c.self.inside in
    let many = length-bits bits.words.items bits.used bits.last in
    record { value = omega (arith, many, c.len.ensures, c.from.ensures) ∙ ap (λ bs. length bs) c.self.view_is }
