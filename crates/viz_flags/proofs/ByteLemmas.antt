-- Flags of bytes.
use Rattle.std.proofs.Common.{◌≡◌, ℕ, suc, zero, ◌+◌, ◌*◌, ◌<◌, ◌≤◌, ◌==◌, Bool, true, List, [], ◌∷◌, ◌++◌, length, get_or, bit_and, ◌/◌, ◌%◌, refl, sym, ap, subst, ◌∙◌, arith, eqb-true}
use Rattle.std.specs.Int.RustNames.{count_ones}
use Rattle.std.specs.List.{list_all, range_with_len}
use Rattle.std.proofs.lemmas.List.Sums.{AllPass-from_list_all}
use Rattle.std.proofs.lemmas.List.FromFn.{get_or-range_with_len, length-range_with_len, get_or-map-range_with_len, length-map-range_with_len}
use Rattle.viz_flags.specs.declared.ranks.TheConstants.{BELOW}
use Rattle.viz_sheet.specs.Kept.{kept_rank}
use Rattle.viz_flags.specs.Flags.{flags_of, flags, starts, set_in}
use Rattle.viz_sheet.proofs.KeptLemmas.{rank-suc}

-- for each byte and flag, by computation
abbrev one_right : ℕ → ℕ → Bool
one_right m d = count_ones (bit_and m (get_or BELOW d 0)) == kept_rank (flags_of m) d

abbrev byte_right : ℕ → Bool
byte_right m = list_all (one_right m) (range_with_len 0 8)

all_right : list_all byte_right (range_with_len 0 256) ≡ true
unfolding count_ones
all_right = refl

abbrev whole_right : ℕ → Bool
whole_right m = count_ones m == kept_rank (flags_of m) 8

all_whole : list_all whole_right (range_with_len 0 256) ≡ true
unfolding count_ones
all_whole = refl

-- what holds of each number below n
at_each : (p : ℕ → Bool) (n : ℕ) → list_all p (range_with_len 0 n) ≡ true → (k : ℕ) → k < n → p k ≡ true
at_each p n h k l =
    let found = AllPass-from_list_all p (range_with_len 0 n) h k 0 (omega (arith, length-range_with_len 0 n)) in
    subst (λ j. p j ≡ true) {x = get_or (range_with_len 0 n) k 0} {y = k} (get_or-range_with_len 0 n k 0 l ∙ omega arith) found

pub set_before-is : (m d : ℕ) → m < 256 → d < 8 → count_ones (bit_and m (get_or BELOW d 0)) ≡ kept_rank (flags_of m) d
set_before-is m d hm hd =
    let h = at_each (one_right m) 8 (at_each byte_right 256 all_right m hm) d hd in
    eqb-true _ _ h

pub all_set-is : (m : ℕ) → m < 256 → count_ones m ≡ kept_rank (flags_of m) 8
all_set-is m hm = eqb-true _ _ (at_each whole_right 256 all_whole m hm)

-- ranks behind a part of the flags
rank-append : (bs cs : List Bool) (r : ℕ) → kept_rank (bs ++ cs) (length bs + r) ≡ kept_rank bs (length bs) + kept_rank cs r
rank-append [] cs r = ap (kept_rank cs) {x = 0 + r} {y = r} (omega arith) ∙ omega arith
rank-append (b ∷ bs) cs r =
    ap (kept_rank (b ∷ (bs ++ cs))) {x = suc (length bs) + r} {y = suc (length bs + r)} (omega arith)
    ∙ omega (arith, rank-suc b (bs ++ cs) (length bs + r), rank-suc b bs (length bs), rank-append bs cs r)

rank-front : (bs cs : List Bool) (r : ℕ) → r ≤ length bs → kept_rank (bs ++ cs) r ≡ kept_rank bs r
rank-front bs cs zero h = refl
rank-front [] cs (suc r) h = absurd (omega arith)
rank-front (b ∷ bs) cs (suc r) h = omega (arith, rank-suc b (bs ++ cs) r, rank-suc b bs r, rank-front bs cs r (omega arith))

-- ranks in a byte
pub rank-in_byte : (masks : List ℕ) (i d : ℕ) → i < length masks → d ≤ 8 → kept_rank (flags masks) (8 * i + d) ≡ kept_rank (flags masks) (8 * i) + kept_rank (flags_of (get_or masks i 0)) d
rank-in_byte [] i d h l = absurd (omega arith)
rank-in_byte (m ∷ ms) zero d h l =
    ap (kept_rank (flags (m ∷ ms))) {x = 8 * 0 + d} {y = d} (omega arith) ∙ rank-front (flags_of m) (flags ms) d l
    ∙ omega arith
rank-in_byte (m ∷ ms) (suc i) d h l =
    let from : (r : ℕ) → kept_rank (flags (m ∷ ms)) (8 + r) ≡ kept_rank (flags_of m) 8 + kept_rank (flags ms) r = λ r. rank-append (flags_of m) (flags ms) r in
    ap (kept_rank (flags (m ∷ ms))) {x = 8 * suc i + d} {y = 8 + (8 * i + d)} (omega arith)
    ∙ from (8 * i + d)
    ∙ ap (λ k. kept_rank (flags_of m) 8 + k) (rank-in_byte ms i d (omega arith) l)
    ∙ omega (arith, from (8 * i), ap (kept_rank (flags (m ∷ ms))) {x = 8 * suc i} {y = 8 + 8 * i} (omega arith))

pub flags-length : (masks : List ℕ) → length (flags masks) ≡ 8 * length masks
flags-length [] = refl
flags-length (m ∷ ms) = omega (arith, flags-length ms)

-- where the bytes start
pub start-is : (masks : List ℕ) (i : ℕ) → i < length masks → get_or (starts masks) i 0 ≡ kept_rank (flags masks) (8 * i)
start-is masks i h = get_or-map-range_with_len (λ i. kept_rank (flags masks) (8 * i)) 0 (length masks) i i 0 h (omega arith)

pub starts-length : (masks : List ℕ) → length (starts masks) ≡ length masks
starts-length masks = length-map-range_with_len (λ i. kept_rank (flags masks) (8 * i)) 0 (length masks)

-- fewer flags stand before an earlier one
rank-up : (marks : List Bool) (r s : ℕ) → r ≤ s → kept_rank marks r ≤ kept_rank marks s
rank-up marks zero s h = omega arith
rank-up [] (suc r) s h = omega arith
rank-up (b ∷ bs) (suc r) zero h = absurd (omega arith)
rank-up (b ∷ bs) (suc r) (suc s) h = omega (arith, rank-suc b bs r, rank-suc b bs s, rank-up bs r s (omega arith))

-- those before a byte and before a flag of it stand before the flag
pub rank-parts : (masks : List ℕ) (number : ℕ) → number < 8 * length masks
    → kept_rank (flags masks) (8 * (number / 8)) + kept_rank (flags_of (get_or masks (number / 8) 0)) (number % 8) ≡ kept_rank (flags masks) number
rank-parts masks number h =
    let whole : 8 * (number / 8) + number % 8 ≡ number = omega arith in
    sym (rank-in_byte masks (number / 8) (number % 8) (omega arith) (omega arith)) ∙ ap (kept_rank (flags masks)) whole

-- and are no more than all
pub rank-within : (masks : List ℕ) (number : ℕ) → number < 8 * length masks → kept_rank (flags masks) number ≤ set_in masks
rank-within masks number h = rank-up (flags masks) number (8 * length masks) (omega arith)
