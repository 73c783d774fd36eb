use Rattle.std.proofs.Common.{◌≡◌, ◌+◌, ◌-◌, length, replicate, true, false, subst, arith}
use Rattle.std.proofs.lemmas.Option.{slice_get-get_or}
use Rattle.std.specs.Prelude.{slice_set}
use Rattle.std.proofs.lemmas.List.{length-replicate}
use Rattle.viz_inform.specs.Above.{AreMarks}
use Rattle.viz_inform.proofs.AboveLemmas.{first_mark, unmarked}
use Rattle.viz_inform.proofs.marks.marks_above.Goals as goal

pub loop-behind-init : goal.loop-behind-init
loop-behind-init c =
    let n = length c.args.steps.now in
    let none : c.in_ok-marks.marks.items ≡ replicate n false = c.in_ok-marks.ensures.items_if_clones_equal (λ y e. e) in
    subst (λ k. AreMarks c.args.net.now c.args.steps.now c.args.sink k (slice_set c.in_ok-marks.marks.items c.args.sink true)) (let e : c.args.sink + 1 ≡ (c.args.sink + 1) - 0 = omega arith in e)
    (rw none (first_mark c.args.net.now c.args.steps.now c.args.sink (replicate n false) (length-replicate n false) c.requires.within (λ j h. unmarked n j h)))

pub pass_on-requires-clause-at : goal.pass_on-requires-clause-at
pass_on-requires-clause-at c = slice_get-get_or c.args.steps.now (c.args.sink - c.loop-behind.behind) _ (omega (arith, c.requires.within))

pub pass_on-requires-clause-marks : goal.pass_on-requires-clause-marks
pass_on-requires-clause-marks c =
    subst (λ k. AreMarks c.args.net.now c.args.steps.now c.args.sink k c.loop-behind.marks.items) (let e : (c.args.sink + 1) - c.loop-behind.behind ≡ (c.args.sink - c.loop-behind.behind) + 1 = omega (arith, c.loop-behind-test.true) in e) c.loop-behind.invariant

pub returns : goal.returns
returns c = record {
  value =
      subst (λ k. AreMarks c.args.net.now c.args.steps.now c.args.sink k c.loop-behind.marks.items) (let e : (c.args.sink + 1) - c.loop-behind.behind ≡ 0 = omega (arith, c.loop-behind-test.false) in e) c.loop-behind.invariant;
}
