use Rattle.std.proofs.Common.{◌≡◌, ◌-◌, ◌^◌, ◌++◌, min, length, take, Some, ap, ◌∙◌, arith, length-append}
use Rattle.viz_lex.specs.Numbers.{digits_value}
use Rattle.viz_lex.specs.Scaled.{small, scaled}
use Rattle.viz_lex.proofs.ScaleLemmas.{scaled_is}
use Rattle.viz_lex.proofs.decimal.scaled.Goals as goal

pub returns-clause-value : goal.returns-clause-value
returns-clause-value c =
    let digits = c.args.front.now ++ c.args.back.now in
    let top = 2 ^ 128 - 1 in
    let size = length-append c.args.front.now c.args.back.now in
    let keep : c.saturating_sub-keep.result ≡ length digits - (c.args.down - c.args.up) = omega (arith, size, c.saturating_sub.ensures, c.saturating_sub-keep.ensures) in
    let lead : c.leading.result ≡ min (digits_value (take (length digits - (c.args.down - c.args.up)) digits)) top = c.leading.ensures ∙ ap (λ k. min (digits_value (take k digits)) top) keep in
    let power : c.saturating_sub-2.result ≡ c.args.up - c.args.down = c.saturating_sub-2.ensures in
    c.raised.ensures.value ∙ ap (λ k. small (Some (scaled c.leading.result k 0))) power ∙ ap (λ n. small (Some (scaled n (c.args.up - c.args.down) 0))) lead
    ∙ scaled_is top digits c.args.up c.args.down (omega arith) c.requires.digits
