-- From the lanes of 64 numbers to the bits of a word.
use Rattle.std.proofs.Common.{◌≡◌, ℕ, zero, suc, ℤ, pos, negsuc, ◌-◌, ◌%◌, ◌^◌, ◌&&◌, Bool, true, false, cond, List, [], ◌∷◌, length, map, take, replicate, bit_and, refl, ap, ap₂, ◌∙◌, subst, arith, to_z, of_z}
use Rattle.std.specs.Int.{Width, w8, w16, w32, w64, w128}
use Rattle.std.specs.List.{list_all}
use Rattle.std.proofs.lemmas.Bool.{ltb-true}
use Rattle.std.proofs.lemmas.List.{length-map}
use Rattle.std.proofs.lemmas.Simd.{tops_compared, zip2_splat, zip2_splat_left, zip2_of_maps, mask_l-mod}
use Rattle.std.proofs.lemmas.Int.{to_z-of_z}
use lib.Lanes.{zip2, top, mask_l}
use lib.Signed.{le_z}
use mir.Val.{SFits, bits, hbits}
use Rattle.viz_lanes.specs.Kept.{low_bits}
use Rattle.viz_lanes.specs.Lanes.{is_signed}
use Rattle.viz_lanes.proofs.BitLemmas.{low_bits-mask}

-- what a comparison leaves in a lane
abbrev lane : Width → (ℕ → ℕ → Bool) → ℕ → ℕ → ℕ
lane w t a b = cond (t a b) (2 ^ bits w - 1) 0

word_of : (bs : List Bool) → length bs ≡ 64 → low_bits 64 (mask_l bs % 2 ^ 64) ≡ bs
word_of bs long =
    let whole = mask_l-mod bs 64 (omega (arith, long)) in
    ap (low_bits 64) whole ∙ subst (λ (n : ℕ). low_bits n (mask_l bs) ≡ bs) long (low_bits-mask bs)

-- v compared with each lane
pub compared : (w : Width) (t : ℕ → ℕ → Bool) (v : ℕ) (ys : List ℕ) (bs : List Bool) → length ys ≡ 64 → map (λ y. t v y) ys ≡ bs
    → low_bits 64 (mask_l (map (top (hbits w)) (zip2 (lane w t) (replicate 64 v) ys)) % 2 ^ 64) ≡ bs
compared w t v ys bs long is =
    let tested = tops_compared w t (replicate 64 v) ys ∙ zip2_splat_left t v 64 ys long ∙ is in
    let many : length bs ≡ 64 = subst (λ cs. length cs ≡ 64) is (length-map ys (λ y. t v y) ∙ long) in
    ap (λ cs. low_bits 64 (mask_l cs % 2 ^ 64)) tested ∙ word_of bs many

both_tops : (w : Width) (a b : Bool) → top (hbits w) (bit_and (cond a (2 ^ bits w - 1) 0) (cond b (2 ^ bits w - 1) 0)) ≡ (a && b)
both_tops w8 true true = refl
both_tops w8 true false = refl
both_tops w8 false true = refl
both_tops w8 false false = refl
both_tops w16 true true = refl
both_tops w16 true false = refl
both_tops w16 false true = refl
both_tops w16 false false = refl
both_tops w32 true true = refl
both_tops w32 true false = refl
both_tops w32 false true = refl
both_tops w32 false false = refl
both_tops w64 true true = refl
both_tops w64 true false = refl
both_tops w64 false true = refl
both_tops w64 false false = refl
both_tops w128 true true = refl
both_tops w128 true false = refl
both_tops w128 false true = refl
both_tops w128 false false = refl

each_both : (w : Width) (s t : ℕ → Bool) (ys : List ℕ)
    → map (top (hbits w)) (map (λ y. bit_and (cond (s y) (2 ^ bits w - 1) 0) (cond (t y) (2 ^ bits w - 1) 0)) ys) ≡ map (λ y. s y && t y) ys
each_both w s t [] = refl
each_both w s t (y ∷ ys) = ap₂ (λ b bs. b ∷ bs) (both_tops w (s y) (t y)) (each_both w s t ys)

-- lo compared with each lane, and each lane with hi
pub compared_both : (w : Width) (t : ℕ → ℕ → Bool) (lo hi : ℕ) (ys : List ℕ) (bs : List Bool) → length ys ≡ 64
    → map (λ y. t lo y && t y hi) ys ≡ bs
    → low_bits 64 (mask_l (map (top (hbits w)) (zip2 bit_and (zip2 (lane w t) (replicate 64 lo) ys) (zip2 (lane w t) ys (replicate 64 hi)))) % 2 ^ 64) ≡ bs
compared_both w t lo hi ys bs long is =
    let low = zip2_splat_left (lane w t) lo 64 ys long in
    let high = zip2_splat (lane w t) ys 64 hi long in
    let joined = zip2_of_maps bit_and (λ y. lane w t lo y) (λ y. lane w t y hi) ys low high in
    let tested = ap (map (top (hbits w))) joined ∙ each_both w (λ y. t lo y) (λ y. t y hi) ys ∙ is in
    let many : length bs ≡ 64 = subst (λ cs. length cs ≡ 64) is (length-map ys (λ y. t lo y && t y hi) ∙ long) in
    ap (λ cs. low_bits 64 (mask_l cs % 2 ^ 64)) tested ∙ word_of bs many

-- two numbers with a sign, by their bits
abbrev pub signed_le : Width → ℕ → ℕ → Bool
signed_le w a b = le_z (to_z w a) (to_z w b)

in_range : (w : Width) (z : ℤ) → is_signed (hbits w) z ≡ true → SFits w z
in_range w (pos n) h = record { sfits = ltb-true n (2 ^ hbits w) h }
in_range w (negsuc n) h = record { sfits = ltb-true n (2 ^ hbits w) h }

both_true : (a b : Bool) → (a && b) ≡ true → (a ≡ true) × (b ≡ true)
both_true true b h = (refl, h)
both_true false b h = cc

pub signed_at_least : (w : Width) (v : ℤ) (xs : List ℤ) (n : ℕ) → SFits w v → list_all (is_signed (hbits w)) xs ≡ true
    → map (λ y. signed_le w (of_z w v) y) (map (of_z w) (take n xs)) ≡ map (λ x. le_z v x) (take n xs)
signed_at_least w v xs zero fits own = refl
signed_at_least w v [] (suc n) fits own = refl
signed_at_least w v (x ∷ xs) (suc n) fits own =
    let parts = both_true (is_signed (hbits w) x) (list_all (is_signed (hbits w)) xs) own in
    ap₂ (λ b bs. b ∷ bs) (ap₂ le_z (to_z-of_z w v fits) (to_z-of_z w x (in_range w x parts.0))) (signed_at_least w v xs n fits parts.1)

pub signed_within : (w : Width) (lo hi : ℤ) (xs : List ℤ) (n : ℕ) → SFits w lo → SFits w hi → list_all (is_signed (hbits w)) xs ≡ true
    → map (λ y. signed_le w (of_z w lo) y && signed_le w y (of_z w hi)) (map (of_z w) (take n xs)) ≡ map (λ x. le_z lo x && le_z x hi) (take n xs)
signed_within w lo hi xs zero low high own = refl
signed_within w lo hi [] (suc n) low high own = refl
signed_within w lo hi (x ∷ xs) (suc n) low high own =
    let parts = both_true (is_signed (hbits w) x) (list_all (is_signed (hbits w)) xs) own in
    let same = to_z-of_z w x (in_range w x parts.0) in
    ap₂ (λ b bs. b ∷ bs)
    (ap₂ (λ a b. a && b) (ap₂ le_z (to_z-of_z w lo low) same) (ap₂ le_z same (to_z-of_z w hi high)))
    (signed_within w lo hi xs n low high parts.1)
