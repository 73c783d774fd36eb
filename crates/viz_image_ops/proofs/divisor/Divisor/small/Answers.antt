use Rattle.std.proofs.Common.{◌≡◌, ℕ, ◌+◌, ◌*◌, ◌/◌, ◌^◌, ◌<◌, ap₂, ◌∙◌, arith}
use Rattle.viz_image_ops.proofs.DivisorLemmas.{upper_part, below_unit}
use Rattle.viz_image_ops.proofs.divisor.Divisor.small.Goals as goal

pub returns-then-n-self : goal.returns-then-n-self
returns-then-n-self c =
    let d = c.args.self.now.number in
    let n = c.args.n in
    let some = c.args.self.now.some in
    let factor : c.from-then-n-self.result ≡ 2 ^ 63 / d + 1 = c.from-then-n-self.ensures ∙ c.args.self.now.upper in
    let below : n < 2 ^ 63 / d = omega (arith, c.if-n-self.true, c.args.self.now.upper) in
    ap₂ (λ (a b : ℕ). a * b / 2 ^ 63) c.from.ensures factor ∙ upper_part (2 ^ 63) n d some (below_unit (2 ^ 63) n d some below)
