use Rattle.std.proofs.Common.{◌≡◌, ℕ, ◌∙◌}
use Rattle.viz_fraction.specs.Divisors.{gcd}
use Rattle.viz_fraction.specs.Numbers.{point_of}
use Rattle.viz_fraction.specs.Words.{numbers_of}
use Rattle.viz_fraction.proofs.PointsLemmas.{divisor-with}
use Rattle.viz_fraction.proofs.words.word_divisor_of_five.Goals as goal

-- five steps one after the other, each with its magnitude
in_turn : (r a b c d e v w x y z mv mw mx my mz : ℕ) → mv ≡ v → mw ≡ w → mx ≡ x → my ≡ y → mz ≡ z
    → a ≡ gcd r mv → b ≡ gcd a mw → c ≡ gcd b mx → d ≡ gcd c my → e ≡ gcd d mz
    → e ≡ gcd (gcd (gcd (gcd (gcd r v) w) x) y) z
in_turn r a b c d e v w x y z mv mw mx my mz iv iw ix iy iz ea eb ec ed ee = cc

pub returns : goal.returns
returns c =
    in_turn _ _ _ _ _ _ _ _ _ _ _ _ _ _ _ _
    c.word_magnitude.ensures c.word_magnitude-2.ensures c.word_magnitude-3.ensures c.word_magnitude-4.ensures c.word_magnitude-5.ensures
    c.with_word-with_w.ensures c.with_word-with_x.ensures c.with_word-with_y.ensures c.with_word-with_z.ensures c.with_word.ensures
    ∙ divisor-with c.args.start (point_of (numbers_of c.args.n.now)) c.requires
