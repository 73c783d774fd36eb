-- Masks of up to four corners, and a bit of one, which says whether that corner is inside.
use Rattle.std.proofs.Common.{◌≡◌, ℕ, zero, suc, ◌+◌, ◌*◌, ◌/◌, ◌%◌, ◌^◌, ◌<◌, ◌≤◌, ◌==◌, Bool, true, false, cond, List, [], ◌∷◌, length, slice_index_or, sym, ap, ◌∙◌, arith}
use Rattle.std.proofs.Math.Nat.{pow-succ', div-div-eq-div-mul}
use Rattle.viz_fraction.specs.Cases.{is_inside}
use Rattle.viz_meaning.specs.Section.{bits_of, mask_of}

lowest : (b : Bool) (m : ℕ) → ((cond b 1 0 + 2 * m) / 2 ^ 0 % 2 == 1) ≡ b
lowest true m =
    let e : (1 + 2 * m) / 1 % 2 ≡ 1 = omega arith in ap (λ n. n == 1) e
lowest false m =
    let e : (0 + 2 * m) / 1 % 2 ≡ 0 = omega arith in ap (λ n. n == 1) e

halved : (b : Bool) (m : ℕ) → (cond b 1 0 + 2 * m) / 2 ≡ m
halved true m = omega arith
halved false m = omega arith

next : (b : Bool) (m i : ℕ) → (cond b 1 0 + 2 * m) / 2 ^ suc i ≡ m / 2 ^ i
next b m i =
    ap (λ d. (cond b 1 0 + 2 * m) / d) (pow-succ' 2 i)
    ∙ sym (div-div-eq-div-mul (cond b 1 0 + 2 * m) 2 (2 ^ i))
    ∙ ap (λ n. n / 2 ^ i) (halved b m)

pub bits-read : (bs : List Bool) (i : ℕ) → i < length bs → is_inside (bits_of bs) i ≡ slice_index_or bs i false
bits-read [] i l = absurd (omega arith)
bits-read (b ∷ bs) zero l = lowest b (bits_of bs)
bits-read (b ∷ bs) (suc i) l = ap (λ n. n % 2 == 1) (next b (bits_of bs) i) ∙ bits-read bs i (omega arith)

bit_most : (b : Bool) → cond b 1 0 ≤ 1
bit_most true = omega arith
bit_most false = omega arith

pub mask_below : {X : Type 0} (f : X → Bool) (xs : List X) → length xs ≤ 4 → mask_of f xs < 2 ^ length xs
mask_below f [] l = omega arith
mask_below f (x ∷ []) l = omega (arith, bit_most (f x))
mask_below f (x ∷ y ∷ []) l = omega (arith, bit_most (f x), bit_most (f y))
mask_below f (x ∷ y ∷ z ∷ []) l = omega (arith, bit_most (f x), bit_most (f y), bit_most (f z))
mask_below f (x ∷ y ∷ z ∷ w ∷ []) l = omega (arith, bit_most (f x), bit_most (f y), bit_most (f z), bit_most (f w))
mask_below f (x ∷ y ∷ z ∷ w ∷ v ∷ vs) l = absurd (omega arith)
