-- What the definitions of image filters give of values by hand.
use Rattle.std.proofs.Common.{◌≡◌, ℕ, ◌+◌, ◌*◌, ℤ, pos, negsuc, refl}
use Rattle.viz_extent.specs.Extent.{Bounds}
use Rattle.viz_extent.specs.Parts.{Rate, sampled}
use Rattle.viz_meaning.specs.ImageFilters.{box_round, clamped, crop_of, floor_of, mean_on, sample_of}
use Rattle.viz_meaning.specs.WholeImages.{WholeImage}

-- half of -1, a third of it, halves of -2 and -3, and of 3
half_of_one_below : floor_of (negsuc 0) 2 ≡ negsuc 0
half_of_one_below = refl

third_of_one_below : floor_of (negsuc 0) 3 ≡ negsuc 0
third_of_one_below = refl

half_of_two_below : floor_of (negsuc 1) 2 ≡ negsuc 0
half_of_two_below = refl

half_of_three_below : floor_of (negsuc 2) 2 ≡ negsuc 1
half_of_three_below = refl

half_of_three : floor_of (pos 3) 2 ≡ pos 1
half_of_three = refl

-- three points along each axis, from 2, 3 and 4 on
abbrev cube : Bounds
cube = record { x0 = 2; x1 = 4; y0 = 3; y1 = 5; z0 = 4; z1 = 6 }

-- the indices as the digits of a number, and the number below 0 that is 1 further away
abbrev digits : ℕ → ℕ → ℕ → ℤ
digits i j k = pos (i + 10 * j + 100 * k)

abbrev digits_below : ℕ → ℕ → ℕ → ℤ
digits_below i j k = negsuc (i + 10 * j + 100 * k)

-- the box round a corner is clipped along each axis: eight points
corner_box : box_round 1 cube 2 3 6 ≡ record { x0 = 2; x1 = 3; y0 = 3; y1 = 4; z0 = 5; z1 = 6 }
corner_box = refl

-- 2.5 + 10 * 3.5 + 100 * 5.5 = 587.5, and -588.5
corner_mean : mean_on digits (box_round 1 cube 2 3 6) ≡ pos 587
corner_mean = refl

corner_mean_below : mean_on digits_below (box_round 1 cube 2 3 6) ≡ negsuc 588
corner_mean_below = refl

-- both ends of 64 bits with a sign, and one past each
most : clamped (pos 9223372036854775807) ≡ pos 9223372036854775807
most = refl

past_most : clamped (pos 9223372036854775808) ≡ pos 9223372036854775807
past_most = refl

least : clamped (negsuc 9223372036854775807) ≡ negsuc 9223372036854775807
least = refl

past_least : clamped (negsuc 9223372036854775808) ≡ negsuc 9223372036854775807
past_least = refl

-- every second of 1 to 5 along x: 2 and 4, which have the indices 1 and 2
abbrev by_two : Rate
by_two = record { x = 2; y = 1; z = 1 }

abbrev row : Bounds
row = record { x0 = 1; x1 = 5; y0 = 0; y1 = 0; z0 = 0; z1 = 0 }

every_second : sampled by_two row ≡ record { x0 = 1; x1 = 2; y0 = 0; y1 = 0; z0 = 0; z1 = 0 }
every_second = refl

second_number : (w : WholeImage) → (sample_of by_two w).number 1 0 0 ≡ w.number 2 0 0
second_number w = refl

-- a crop has what lies in both its box and the image, each number at its own indices
abbrev box : Bounds
box = record { x0 = 3; x1 = 9; y0 = 0; y1 = 4; z0 = 5; z1 = 5 }

crop_extent : (w : WholeImage) → (crop_of box (record w { extent = cube })).extent ≡ record { x0 = 3; x1 = 4; y0 = 3; y1 = 4; z0 = 5; z1 = 5 }
crop_extent w = refl

crop_number : (w : WholeImage) → (crop_of box w).number 3 4 5 ≡ w.number 3 4 5
crop_number w = refl
