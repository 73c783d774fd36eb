use Rattle.std.proofs.Common.{◌≡◌, ◌+◌, ◌-◌, ◌<◌, suc, length, refl, subst, ◌∙◌, arith}
use Rattle.viz_history.specs.Steps.Walk.{HasPassed}
use Rattle.viz_history.proofs.WalkLemmas.{none_passed, one_passed, all_passed}
use Rattle.viz_history.proofs.publishing.give_overtaken_up.Goals as goal

pub loop-init : goal.loop-init
loop-init c =
    let es = c.args.cache.now.entries in
    let all : length es ≡ length es - 0 = omega arith in
    record { passed = subst (λ n. HasPassed c.args.stamps.now c.args.at n es es) all (none_passed c.args.stamps.now c.args.at es); capacity = refl }

pub loop-preserved : goal.loop-preserved
loop-preserved c =
    let es = c.args.cache.now.entries in
    let net = c.args.stamps.now in
    let left = length es - (c.loop.counter + 1) in
    let within : c.loop.counter < length es = subst (λ n. c.loop.counter < n) c.len-end.ensures.value c.loop-test.true in
    let one : length es - c.loop.counter ≡ suc left = omega (arith, within) in
    let below : left < length es = omega (arith, within) in
    let passed = subst (λ n. HasPassed net c.args.at n es c.loop.cache.entries) one c.loop.invariant.passed in
    record {
      passed = one_passed net c.args.at es left c.loop.cache.entries c.pass_over.new.cache.entries below passed c.pass_over.ensures.last;
      capacity = c.pass_over.ensures.capacity ∙ c.loop.invariant.capacity;
    }

pub returns-clause-entries : goal.returns-clause-entries
returns-clause-entries c =
    let es = c.args.cache.now.entries in
    let net = c.args.stamps.now in
    let none : length es - c.loop.counter ≡ 0 = omega (arith, c.loop-test.false, c.len-end.ensures.value) in
    all_passed net c.args.at es c.loop.cache.entries (subst (λ n. HasPassed net c.args.at n es c.loop.cache.entries) none c.loop.invariant.passed)
