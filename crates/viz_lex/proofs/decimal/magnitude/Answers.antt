use Rattle.std.proofs.Common.{◌≡◌, drop, Some, arith}
use Rattle.std.specs.Prelude.{option_map}
use Rattle.std.proofs.lemmas.Grind.{common_steps}
use Rattle.viz_lex.specs.Decimals.{exponent_of}
use Rattle.viz_lex.specs.Scaled.{clipped}
use Rattle.viz_lex.proofs.ScaleLemmas.{magnitude_is}
use Rattle.viz_lex.proofs.decimal.magnitude.Goals as goal

pub returns-clause-value : goal.returns-clause-value
returns-clause-value c =
    let stop = c.letter_at-stop.result in
    let known : option_map clipped (exponent_of (drop stop c.args.text.now)) ≡ Some (c.in_ok-up.up, c.in_ok-up.down) = grind (arith, common_steps) in
    magnitude_is c.args.text.now stop c.in_ok-up.up c.in_ok-up.down c.mantissa.result c.requires c.letter_at-stop.ensures.value known c.mantissa.ensures.value
