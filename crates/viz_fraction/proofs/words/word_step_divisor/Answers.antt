use Rattle.std.proofs.Common.{◌≡◌, ℕ, pos, sym, subst, arith}
use Rattle.std.proofs.lemmas.Int.{ints}
use Prim.Native.Nat.{◌∣◌}
use Rattle.viz_fraction.proofs.words.word_step_divisor.Goals as goal

pub returns : goal.returns
returns c = λ d each.
    let one_a : c.args.a.now.w ≡ pos 1 = omega (arith, ints) in
    let one_b : c.args.b.now.w ≡ pos 1 = omega (arith, ints) in
    let steps = each one_a one_b in
    let P : ℕ → Type 0 = λ n. d ∣ n in
    c.divisor_of_steps.ensures d (subst P (sym c.word_step.ensures) steps.x) (subst P (sym c.word_step-2.ensures) steps.y) (subst P (sym c.word_step-3.ensures) steps.z)
