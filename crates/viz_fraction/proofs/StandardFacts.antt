-- Divisors, lowest terms, crossings and decimals reckoned by hand.
use Rattle.std.proofs.Common.{◌≡◌, ◌*◌, ◌^◌, pos, negsuc, refl}
use Rattle.viz_fraction.specs.Divisors.{gcd}
use Rattle.viz_fraction.specs.Points.{numbers, divisor_of, reduced}
use Rattle.viz_fraction.specs.Forms.{value_of}
use Rattle.viz_fraction.specs.Crossings.{crossing_of}
use Rattle.viz_fraction.specs.Decimals.{fixed_of}

four_and_six : gcd 4 6 ≡ 2
unfolding gcd
four_and_six = refl

-- 2^3 * 3^2 and 2^2 * 3 * 5
seventy_two_and_sixty : gcd 72 60 ≡ 12
unfolding gcd
seventy_two_and_sixty = refl

none_and_five : gcd 0 5 ≡ 5
unfolding gcd
none_and_five = refl

five_and_none : gcd 5 0 ≡ 5
unfolding gcd
five_and_none = refl

two_powers : gcd (2 ^ 120) (2 ^ 90 * 3) ≡ 2 ^ 90
unfolding gcd
two_powers = refl

-- half of each
in_lowest_terms : reduced (numbers (pos 2) (negsuc 3) (pos 6) (pos 0) (pos 8)) ≡ numbers (pos 1) (negsuc 1) (pos 3) (pos 0) (pos 4)
unfolding gcd divisor_of
in_lowest_terms = refl

-- x + 2 y - 3 z + 4 s - 5 w at (1, 2, 3) with scalar 4
a_form : value_of (record { a = pos 1; b = pos 2; c = negsuc 2; q = pos 4; r = pos 5 }) (numbers (pos 1) (pos 2) (pos 3) (pos 4) (pos 1)) ≡ pos 7
a_form = refl

-- scalar 9 at (1, 1, 1) and 0 at (0, 0, 0), level 5: at 5/9 of the way
five_ninths : crossing_of (pos 4) (numbers (pos 1) (pos 1) (pos 1) (pos 9) (pos 1)) (negsuc 4) (numbers (pos 0) (pos 0) (pos 0) (pos 0) (pos 1)) ≡ numbers (pos 5) (pos 5) (pos 5) (pos 45) (pos 9)
unfolding gcd divisor_of
five_ninths = refl

-- at the inside end where its value is 0
at_the_corner : crossing_of (pos 0) (numbers (pos 1) (pos 1) (pos 1) (pos 5) (pos 1)) (negsuc 4) (numbers (pos 0) (pos 0) (pos 0) (pos 0) (pos 1)) ≡ numbers (pos 1) (pos 1) (pos 1) (pos 5) (pos 1)
unfolding gcd divisor_of
at_the_corner = refl

-- values 2 and -4 with the common factor 2, from x = -6 to x = 3: a third of the way, -3
a_third : crossing_of (pos 2) (numbers (negsuc 5) (pos 0) (pos 0) (pos 0) (pos 1)) (negsuc 3) (numbers (pos 3) (pos 0) (pos 0) (pos 0) (pos 1)) ≡ numbers (negsuc 2) (pos 0) (pos 0) (pos 0) (pos 1)
unfolding gcd divisor_of
a_third = refl

-- -1/2 rounds down to -1
half_below : fixed_of (negsuc 0) (pos 2) 0 ≡ negsuc 0
unfolding fixed_of
half_below = refl

-- 5/9 at three places is 0.555
five_ninths_at_three : fixed_of (pos 5) (pos 9) 3 ≡ pos 555
unfolding fixed_of
five_ninths_at_three = refl

-- -5/9 at three places is -0.556
below_zero_at_three : fixed_of (negsuc 4) (pos 9) 3 ≡ negsuc 555
unfolding fixed_of
below_zero_at_three = refl
