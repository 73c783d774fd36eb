use Rattle.std.proofs.Common.{◌≡◌, ℕ, true, ◌||◌, ◌==◌, ⊎_elim, sym, subst}
use Rattle.std.proofs.lemmas.Bool.{or_cases, eqb-true}
use Prim.Native.Nat.{◌∣◌}
use Rattle.viz_fraction.proofs.DivisorsLemmas.{gcd_is}
use Rattle.viz_fraction.proofs.words.divisor_of_steps.Goals as goal

-- what divides a number that is 1 divides 1
divides_one : (d n : ℕ) → (n == 1) ≡ true → d ∣ n → d ∣ 1
divides_one d n one divides = let P : ℕ → Type 0 = λ m. d ∣ m in subst P (eqb-true n 1 one) divides

pub returns-then-x-y : goal.returns-then-x-y
returns-then-x-y c = λ d in_x in_y in_z.
    let x = c.args.x in
    let y = c.args.y in
    let z = c.args.z in
    ⊎_elim
    (λ xy. ⊎_elim (λ one. divides_one d x one in_x) (λ one. divides_one d y one in_y) (or_cases (x == 1) (y == 1) xy))
    (λ one. divides_one d z one in_z)
    (or_cases ((x == 1) || (y == 1)) (z == 1) c.if-x-y.true)

pub returns : goal.returns
returns c = λ d in_x in_y in_z.
    let x = c.args.x in
    let y = c.args.y in
    let P : ℕ → Type 0 = λ n. d ∣ n in
    let in_xy : d ∣ c.with_word.result = subst P (sym c.with_word.ensures) ((gcd_is x y).2 d in_x in_y) in
    subst P (sym c.with_word-2.ensures) ((gcd_is c.with_word.result c.args.z).2 d in_xy in_z)
