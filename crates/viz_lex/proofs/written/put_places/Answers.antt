use Rattle.std.proofs.Common.{◌≡◌, ◌+◌, ◌/◌, ◌-◌, ◌<◌, ◌^◌, [], ◌∷◌, ◌++◌, sym, ap, ◌∙◌, arith}
use Rattle.std.proofs.lemmas.Nat.{mod_below}
use Rattle.std.proofs.lemmas.List.{append-nil}
use Rattle.std.proofs.lemmas.Grind.{common_steps}
use Rattle.viz_lex.specs.Written.{places, IsBegun}
use Rattle.viz_lex.proofs.ReadingLemmas.{OnErr-any}
use Rattle.viz_lex.proofs.ScaleLemmas.{power_some}
use Rattle.viz_lex.proofs.WrittenLemmas.{places-zero, digit_below_ten, told_step, IsBegun-more, IsBegun-same}
use Rattle.viz_lex.proofs.written.put_places.Goals as goal

pub nonzero_div-rest : goal.nonzero_div-rest
nonzero_div-rest c = omega (arith, c.pow-unit.ensures, power_some (c.loop-rest.place - 1))

pub nonzero_rem-rest : goal.nonzero_rem-rest
nonzero_rem-rest c = omega (arith, c.pow-unit.ensures, power_some (c.loop-rest.place - 1))

pub overflow_cast-rest : goal.overflow_cast-rest
overflow_cast-rest c =
    let unit : c.pow-unit.result ≡ 10 ^ (c.loop-rest.place - 1) = c.pow-unit.ensures in
    let digit = digit_below_ten c.loop-rest.place c.loop-rest.rest (omega arith) c.loop-rest.invariant.small in
    let same : c.loop-rest.rest / c.pow-unit.result ≡ c.loop-rest.rest / 10 ^ (c.loop-rest.place - 1) = ap (λ u. c.loop-rest.rest / u) unit in
    omega (arith, digit, same)

pub overflow_add-rest : goal.overflow_add-rest
overflow_add-rest c =
    let unit : c.pow-unit.result ≡ 10 ^ (c.loop-rest.place - 1) = c.pow-unit.ensures in
    let digit = digit_below_ten c.loop-rest.place c.loop-rest.rest (omega arith) c.loop-rest.invariant.small in
    let same : c.loop-rest.rest / c.pow-unit.result ≡ c.loop-rest.rest / 10 ^ (c.loop-rest.place - 1) = ap (λ u. c.loop-rest.rest / u) unit in
    omega (arith, digit, same)

pub returns-in_err-push-clause-err : goal.returns-in_err-push-clause-err
returns-in_err-push-clause-err c =
    let begun : IsBegun c.args.text.now.items c.push.new.self.items = IsBegun-same c.args.text.now.items c.loop-rest.text.items c.push.new.self.items c.loop-rest.invariant.begun c.in_err-push.ensures.items in
    OnErr-any c.from_residual.result begun

pub loop-rest-preserved : goal.loop-rest-preserved
loop-rest-preserved c =
    let unit : c.pow-unit.result ≡ 10 ^ (c.loop-rest.place - 1) = c.pow-unit.ensures in
    let pushed : c.push.new.self.items ≡ c.loop-rest.text.items ++ (48 + c.loop-rest.rest / c.pow-unit.result) ∷ [] = grind (arith, common_steps) in
    let some : 0 < c.loop-rest.rest = omega arith in
    record {
      few = omega (arith, c.loop-rest.invariant.few);
      small = rw unit (mod_below c.loop-rest.rest (10 ^ (c.loop-rest.place - 1)) (power_some (c.loop-rest.place - 1)));
      begun = IsBegun-more c.args.text.now.items c.loop-rest.text.items c.push.new.self.items _ c.loop-rest.invariant.begun pushed;
      told = told_step _ c.loop-rest.text.items c.push.new.self.items c.loop-rest.place c.pow-unit.result c.loop-rest.rest some c.loop-rest.invariant.small unit pushed c.loop-rest.invariant.told;
    }

pub returns-clause-ok : goal.returns-clause-ok
returns-clause-ok c =
    let none : places c.loop-rest.place c.loop-rest.rest ≡ [] = ap (places c.loop-rest.place) c.loop-rest-test.false ∙ places-zero c.loop-rest.place in
    sym (append-nil c.loop-rest.text.items) ∙ ap (λ t. c.loop-rest.text.items ++ t) (sym none) ∙ c.loop-rest.invariant.told
