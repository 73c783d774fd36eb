use Rattle.std.proofs.Common.{◌≡◌, pos, neg_ℤ, None, ap, ◌∙◌, arith}
use Rattle.std.specs.Prelude.{option_map}
use Rattle.std.proofs.lemmas.Grind.{common_steps}
use Rattle.viz_lex.specs.Decimals.{magnitude_of, limited}
use Rattle.viz_lex.specs.Scaled.{small}
use Rattle.viz_lex.proofs.ScaleLemmas.{limited_negative}
use Rattle.viz_lex.proofs.decimal.negative.Goals as goal

pub returns-in_err-n : goal.returns-in_err-n
returns-in_err-n c =
    let text = c.args.text.now in
    let none : small (magnitude_of text) ≡ None = grind (arith, common_steps) in
    let none_signed : limited (option_map (λ n. neg_ℤ (pos n)) (magnitude_of text)) ≡ None = limited_negative (magnitude_of text) ∙ ap (option_map (λ n. neg_ℤ (pos n))) none in
    grind (arith, common_steps)
