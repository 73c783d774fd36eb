use Rattle.std.proofs.Common.{◌≡◌, ◌≢◌, ◌+◌, ◌++◌, true, suc, length, drop, take, Some, sym, ap, ◌∙◌, arith, length-append}
use Rattle.std.specs.List.{list_all}
use Rattle.viz_lex.specs.Numbers.{is_digit, digits_value}
use Rattle.viz_lex.specs.Decimals.{is_point, first_at, in_front, behind_point}
use Rattle.viz_lex.specs.Scaled.{small, scaled}
use Rattle.viz_lex.proofs.ScaleLemmas.{scaled_all}
use Rattle.viz_lex.proofs.decimal.mantissa.Goals as goal

pub returns-clause-value : goal.returns-clause-value
returns-clause-value c =
    let text = c.args.text.now in
    let at = c.point_at-point.result in
    let up = 9 + c.args.up in
    let point : at ≡ first_at is_point text = c.point_at-point.ensures.value in
    let next : at + 1 ≡ suc (first_at is_point text) = omega (arith, point) in
    let back : c.behind-back.result.now ≡ behind_point text = c.behind-back.ensures ∙ ap (λ k. drop k text) next in
    let digits = in_front text ++ behind_point text in
    let both : take at text ++ c.behind-back.result.now ≡ digits = ap (λ k. take k text ++ c.behind-back.result.now) point ∙ ap (λ t. in_front text ++ t) back in
    let all : list_all is_digit digits ≡ true = sym (ap (list_all is_digit) both) ∙ sym c.are_digits.ensures ∙ c.if-not-are_digits.false in
    let some : length digits ≢ 0 = λ e. c.if-front-back-eq0.false (sym (length-append (take at text) c.behind-back.result.now) ∙ ap length both ∙ e) in
    c.scaled.ensures.value ∙ ap (λ t. small (Some (scaled (digits_value t) up (length c.behind-back.result.now + c.args.down)))) both
    ∙ ap (λ t. small (Some (scaled (digits_value digits) up (length t + c.args.down)))) back ∙ sym (scaled_all up (length (behind_point text) + c.args.down) digits some all)
