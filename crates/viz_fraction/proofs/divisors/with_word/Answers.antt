use Rattle.std.proofs.Common.{ap, sym, ◌∙◌}
use Rattle.viz_fraction.specs.Divisors.{gcd}
use Rattle.viz_fraction.proofs.DivisorsLemmas.{gcd-zero, gcd-one}
use Rattle.viz_fraction.proofs.divisors.with_word.Goals as goal

pub returns-then-divisor-eq0 : goal.returns-then-divisor-eq0
returns-then-divisor-eq0 c = gcd-zero _ ∙ ap (λ d. gcd d c.args.magnitude) (sym c.if-divisor-eq0.true)

pub returns-then-divisor-eq1 : goal.returns-then-divisor-eq1
returns-then-divisor-eq1 c = gcd-one _ ∙ ap (λ d. gcd d c.args.magnitude) (sym c.if-divisor-eq1.true)
