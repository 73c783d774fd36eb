-- Bytes of flags: one more that is set, and those before a byte.
use Rattle.std.proofs.Common.{◌≡◌, ◌≢◌, ℕ, zero, suc, ◌+◌, ◌-◌, ◌*◌, ◌/◌, ◌%◌, ◌^◌, ◌<◌, ◌==◌, nat_eq, Bool, true, false, if◌then◌else◌, List, [], ◌∷◌, ◌++◌, length, get_or, set, map, refl, sym, ap, subst, ◌∙◌, arith, eqb-true, bit_or, w8, replicate}
use Rattle.std.specs.Int.{bit_at}
use Rattle.std.specs.List.{range_with_len}
use Rattle.std.proofs.lemmas.Bool.Decides.{nat_tests}
use Rattle.std.proofs.lemmas.Nat.Bits.{bit_at_set_same, bit_at_set_other}
use Rattle.std.proofs.lemmas.List.{set-append_left, set-append_right, map-append}
use Rattle.viz_sheet.specs.Kept.{kept_rank}
use Rattle.viz_flags.specs.Flags.{flags_of, flags}
use Rattle.viz_sheet.specs.Steps.Marking.{IsMarkedBy}
use Rattle.viz_flags.proofs.ByteLemmas.{rank-in_byte}
use Rattle.viz_sheet.proofs.MarkingLemmas.{rank_marked, none_marked}
use Rattle.viz_flags.proofs.RowLemmas.{each_below}

-- ---- one bit more

one : ℕ → ℕ → ℕ → Bool
one m d k = if k == d then true else bit_at m k == 1

bit_now : (m d k : ℕ) → d < 8 → (bit_at (bit_or m (1 * 2 ^ d % 2 ^ 8)) k == 1) ≡ one m d k
unfolding one
bit_now m d k h = by_test (nat_eq k d) refl
  where
    by_test : (b : Bool) → nat_eq k d ≡ b → (bit_at (bit_or m (1 * 2 ^ d % 2 ^ 8)) k == 1) ≡ (if k == d then true else bit_at m k == 1)
    by_test true e =
        let is : k ≡ d = eqb-true k d e in
        rw e (rw is (ap (λ n. n == 1) (bit_at_set_same w8 m d h)))
    by_test false e =
        let other : k ≢ d = grind (arith, nat_tests) in
        rw e (ap (λ n. n == 1) (bit_at_set_other w8 m d h k other))

pub bit_set : (m d : ℕ) → d < 8 → flags (bit_or m (1 * 2 ^ d % 2 ^ 8) ∷ []) ≡ set (flags (m ∷ [])) d true
unfolding one
bit_set m d h =
    let e : (k : ℕ) → (bit_at (bit_or m (1 * 2 ^ d % 2 ^ 8)) k == 1) ≡ one m d k = λ k. bit_now m d k h in
    let now : flags (bit_or m (1 * 2 ^ d % 2 ^ 8) ∷ []) ≡ map (one m d) (0 ∷ 1 ∷ 2 ∷ 3 ∷ 4 ∷ 5 ∷ 6 ∷ 7 ∷ []) =
    λ i. e 0 i ∷ e 1 i ∷ e 2 i ∷ e 3 i ∷ e 4 i ∷ e 5 i ∷ e 6 i ∷ e 7 i ∷ [] in
    now ∙ each_below (λ d. map (one m d) (0 ∷ 1 ∷ 2 ∷ 3 ∷ 4 ∷ 5 ∷ 6 ∷ 7 ∷ []) ≡ set (flags (m ∷ [])) d true) 8
    (refl, (refl, (refl, (refl, (refl, (refl, (refl, (refl, tt)))))))) d h

-- ---- in a list of bytes

set_at : (masks : List ℕ) (i d x : ℕ) → i < length masks → d < 8 → flags (x ∷ []) ≡ set (flags (get_or masks i 0 ∷ [])) d true
    → flags (set masks i x) ≡ set (flags masks) (8 * i + d) true
set_at [] i d x h l e = absurd (omega arith)
set_at (m ∷ ms) zero d x h l e =
    ap (λ t. t ++ flags ms) e ∙ sym (set-append_left (flags_of m) (flags ms) d true l)
    ∙ ap (λ k. set (flags (m ∷ ms)) k true) {x = d} {y = 8 * 0 + d} (omega arith)
set_at (m ∷ ms) (suc i) d x h l e =
    let index : 8 * suc i + d - 8 ≡ 8 * i + d = omega arith in
    ap (λ t. flags_of m ++ t) (set_at ms i d x (omega arith) l e ∙ ap (λ k. set (flags ms) k true) (sym index))
    ∙ sym (set-append_right (flags_of m) (flags ms) 8 (8 * suc i + d) true refl (omega arith))

pub flag_set : (masks : List ℕ) (number x : ℕ) → number < 8 * length masks → flags (x ∷ []) ≡ set (flags (get_or masks (number / 8) 0 ∷ [])) (number % 8) true
    → flags (set masks (number / 8) x) ≡ set (flags masks) number true
flag_set masks number x h e =
    set_at masks (number / 8) (number % 8) x (omega arith) (omega arith) e
    ∙ ap (λ k. set (flags masks) k true) {x = 8 * (number / 8) + number % 8} {y = number} (omega arith)

pub three_marked : (b0 b1 b2 b3 : List Bool) (p q r : ℕ) → p < length b0 → q < length b1 → r < length b2
    → b1 ≡ set b0 p true → b2 ≡ set b1 q true → b3 ≡ set b2 r true → IsMarkedBy b0 (p ∷ q ∷ r ∷ []) b3
three_marked b0 b1 b2 b3 p q r hp hq hr e1 e2 e3 =
    let m1 : IsMarkedBy b0 (p ∷ []) b1 = subst (IsMarkedBy b0 (p ∷ [])) (sym e1) (rank_marked b0 [] b0 p hp (none_marked b0)) in
    let m2 : IsMarkedBy b0 (p ∷ q ∷ []) b2 = subst (IsMarkedBy b0 (p ∷ q ∷ [])) (sym e2) (rank_marked b0 (p ∷ []) b1 q hq m1) in
    subst (IsMarkedBy b0 (p ∷ q ∷ r ∷ [])) (sym e3) (rank_marked b0 (p ∷ q ∷ []) b2 r hr m2)

pub range-append : (a m n : ℕ) → range_with_len a (m + n) ≡ range_with_len a m ++ range_with_len (a + m) n
range-append a zero n = ap (range_with_len a) {x = 0 + n} {y = n} (omega arith) ∙ ap (λ k. range_with_len k n) {x = a} {y = a + 0} (omega arith)
range-append a (suc m) n =
    ap (range_with_len a) {x = suc m + n} {y = suc (m + n)} (omega arith) ∙ ap (λ l. a ∷ l) (range-append (a + 1) m n ∙ ap (λ k. range_with_len (a + 1) m ++ range_with_len k n) {x = a + 1 + m} {y = a + suc m} (omega arith))

-- a list of three items is these
pub eta_three : (xs : List ℕ) → length xs ≡ 3 → get_or xs 0 0 ∷ get_or xs 1 0 ∷ get_or xs 2 0 ∷ [] ≡ xs
eta_three [] h = absurd (omega arith)
eta_three (x ∷ []) h = absurd (omega arith)
eta_three (x ∷ y ∷ []) h = absurd (omega arith)
eta_three (x ∷ y ∷ z ∷ []) h = refl
eta_three (x ∷ y ∷ z ∷ w ∷ ws) h = absurd (omega arith)

-- ---- how many are set before each byte

pub starts_more : (masks : List ℕ) (i : ℕ) (list list' : List ℕ) (count added : ℕ) → i < length masks
    → list ≡ map (λ i. kept_rank (flags masks) (8 * i)) (range_with_len 0 i) → count ≡ kept_rank (flags masks) (8 * i)
    → list' ≡ list ++ count ∷ [] → added ≡ kept_rank (flags_of (get_or masks i 0)) 8
    → (list' ≡ map (λ i. kept_rank (flags masks) (8 * i)) (range_with_len 0 (i + 1))) × (count + added ≡ kept_rank (flags masks) (8 * (i + 1)))
starts_more masks i list list' count added l is_list is_count pushed is_added =
    let f : ℕ → ℕ = λ i. kept_rank (flags masks) (8 * i) in
    let range : range_with_len 0 (i + 1) ≡ range_with_len 0 i ++ i ∷ [] = range-append 0 i 1 ∙ ap (λ a. range_with_len 0 i ++ a ∷ []) {x = 0 + i} {y = i} (omega arith) in
    let more : map f (range_with_len 0 (i + 1)) ≡ map f (range_with_len 0 i) ++ f i ∷ [] = ap (map f) range ∙ map-append f (range_with_len 0 i) (i ∷ []) in
    let sum : kept_rank (flags masks) (8 * i + 8) ≡ kept_rank (flags masks) (8 * i) + kept_rank (flags_of (get_or masks i 0)) 8 = rank-in_byte masks i 8 l (omega arith) in
    let index : 8 * (i + 1) ≡ 8 * i + 8 = omega arith in (
      pushed ∙ ap (λ t. t ++ count ∷ []) is_list ∙ ap (λ n. map f (range_with_len 0 i) ++ n ∷ []) is_count ∙ sym more,
      ap (λ n. n + added) is_count ∙ ap (λ n. kept_rank (flags masks) (8 * i) + n) is_added ∙ sym sum ∙ ap (kept_rank (flags masks)) (sym index),
    )

pub none_set : (n : ℕ) → flags (replicate n 0) ≡ replicate (8 * n) false
none_set zero = refl
none_set (suc n) =
    let more : 8 * suc n ≡ suc (suc (suc (suc (suc (suc (suc (suc (8 * n)))))))) = omega arith in
    ap (λ t. flags_of 0 ++ t) (none_set n) ∙ ap (λ k. replicate k false) (sym more)
