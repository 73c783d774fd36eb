use Rattle.std.proofs.Common.{◌≡◌, ◌-◌, ◌^◌, min, length, take, ap, ◌∙◌, arith}
use Rattle.std.proofs.lemmas.Grind.{common_steps}
use Rattle.viz_lex.specs.Scaled.{more_digits}
use Rattle.viz_lex.proofs.ScaleLemmas.{leading_is}
use Rattle.viz_lex.proofs.decimal.leading.Goals as goal

pub returns : goal.returns
returns c =
    let front = c.args.front.now in
    let back = c.args.back.now in
    let first = min c.args.keep (length front) in
    let top = 2 ^ 128 - 1 in
    let one : c.more_digits.result ≡ min (more_digits 0 (take first front)) top = grind (arith, common_steps) in
    let two : c.more_digits-2.result ≡ min (more_digits c.more_digits.result (take (c.args.keep - first) back)) top = grind (arith, common_steps) in
    two ∙ ap (λ n. min (more_digits n (take (c.args.keep - first) back)) top) one ∙ leading_is top c.args.keep front back
