use Rattle.std.proofs.Common.{ℕ, Bool, ◌==◌, ap}
use Rattle.std.specs.Int.{bit_at}
use Rattle.viz_mixed.proofs.WordLemmas.{each_of_eight}
use Rattle.viz_flags.proofs.cubes.corners_at.Goals as goal

abbrev one : ℕ → Bool
one n = n == 1

pub returns-clause-value : goal.returns-clause-value
returns-clause-value c =
    each_of_eight (λ word. bit_at word c.args.t == 1) 0 c.args.words.now c.told-words _ _ _ _ _ _ _ _
    (ap one c.bit.ensures.value) (ap one c.bit-2.ensures.value) (ap one c.bit-3.ensures.value) (ap one c.bit-4.ensures.value)
    (ap one c.bit-5.ensures.value) (ap one c.bit-6.ensures.value) (ap one c.bit-7.ensures.value) (ap one c.bit-8.ensures.value)
