use Rattle.std.proofs.Common.{◌≡◌, ◌*◌, ◌/◌, ◌%◌, ◌^◌}
use Rattle.viz_fraction.proofs.decimals.digit_by_digit.Given as goal

abbrev pub invariant-loop : goal.invariant-loop
invariant-loop l = record { value : l.digits ≡ l.rest * 10 ^ l.counter / l.w; left : l.left ≡ l.rest * 10 ^ l.counter % l.w }
