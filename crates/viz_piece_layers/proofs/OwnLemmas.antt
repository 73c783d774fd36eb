-- Own positions: ranges from cut to cut are all positions.
use Rattle.std.proofs.Common.{◌≡◌, ℕ, zero, suc, ◌+◌, ◌-◌, ◌*◌, ◌/◌, ◌<◌, ◌≤◌, append-nil, Bool, true, false, List, [], ◌∷◌, ◌++◌, map, replicate, refl, sym, ap, ap₂, ◌∙◌, arith}
use Rattle.std.specs.List.{flat_map, range_with_len}
use Rattle.std.proofs.lemmas.Nat.{div-add-mod', div-mul-add, le-div, mul-le}
use Rattle.viz_sheet.specs.Kept.{kept}
use Rattle.viz_extent.specs.Slabs.{share_begin}
use Rattle.viz_parts.specs.Pieces.{AreAll, own_range}
use Rattle.viz_piece_layers.proofs.RangeLemmas.{range-split}

kept_yes : (from n : ℕ) (marks : List Bool) (rest : List ℕ) → kept (replicate n true ++ marks) (range_with_len from n ++ rest) ≡ range_with_len from n ++ kept marks rest
kept_yes from zero marks rest = refl
kept_yes from (suc n) marks rest = ap (λ r. from ∷ r) (kept_yes (from + 1) n marks rest)

kept_no : (from n : ℕ) (marks : List Bool) (rest : List ℕ) → kept (replicate n false ++ marks) (range_with_len from n ++ rest) ≡ kept marks rest
kept_no from zero marks rest = refl
kept_no from (suc n) marks rest = kept_no (from + 1) n marks rest

kept_nothing : (from k : ℕ) → kept (replicate k false) (range_with_len from k) ≡ []
kept_nothing from zero = refl
kept_nothing from (suc k) = kept_nothing (from + 1) k

one_range : (count lo hi : ℕ) → lo ≤ hi → hi ≤ count → kept (own_range count lo hi) (range_with_len 0 count) ≡ range_with_len lo (hi - lo)
one_range count lo hi l m =
    let marks : List Bool = replicate (hi - lo) true ++ replicate (count - hi) false in
    ap (λ k. kept (replicate lo false ++ marks) (range_with_len 0 k)) {x = count} {y = lo + (hi - lo + (count - hi))} (omega (arith, l, m))
    ∙ ap (kept (replicate lo false ++ marks)) (range-split 0 lo (hi - lo + (count - hi)))
    ∙ kept_no 0 lo marks (range_with_len (0 + lo) (hi - lo + (count - hi)))
    ∙ ap (λ k. kept marks (range_with_len k (hi - lo + (count - hi)))) {x = 0 + lo} {y = lo} (omega arith)
    ∙ ap (kept marks) (range-split lo (hi - lo) (count - hi))
    ∙ kept_yes lo (hi - lo) (replicate (count - hi) false) (range_with_len (lo + (hi - lo)) (count - hi))
    ∙ ap (λ r. range_with_len lo (hi - lo) ++ r) (kept_nothing (lo + (hi - lo)) (count - hi))
    ∙ append-nil (range_with_len lo (hi - lo))

pub rise_far : (cut : ℕ → ℕ) → ((p : ℕ) → cut p ≤ cut (p + 1)) → (a k : ℕ) → cut a ≤ cut (a + k)
rise_far cut r a zero = omega (arith, ap cut {x = a + 0} {y = a} (omega arith))
rise_far cut r a (suc k) = omega (arith, rise_far cut r a k, r (a + k), ap cut {x = a + k + 1} {y = a + suc k} (omega arith))

joined : (cut : ℕ → ℕ) (count : ℕ) → ((p : ℕ) → cut p ≤ cut (p + 1)) → (a k : ℕ) → cut (a + k) ≤ count
    → flat_map (λ own. kept own (range_with_len 0 count)) (map (λ p. own_range count (cut p) (cut (p + 1))) (range_with_len a k)) ≡ range_with_len (cut a) (cut (a + k) - cut a)
joined cut count r a zero b = ap (range_with_len (cut a)) {x = 0} {y = cut (a + 0) - cut a} (omega (arith, ap cut {x = a + 0} {y = a} (omega arith)))
joined cut count r a (suc k) b =
    let same : cut (a + 1 + k) ≡ cut (a + suc k) = ap cut {x = a + 1 + k} {y = a + suc k} (omega arith) in
    let up : cut (a + 1) ≤ cut (a + 1 + k) = rise_far cut r (a + 1) k in
    ap₂ (λ x y. x ++ y) (one_range count (cut a) (cut (a + 1)) (r a) (omega (arith, up, same, b))) (joined cut count r (a + 1) k (omega (arith, same, b)))
    ∙ ap (λ f. range_with_len (cut a) (cut (a + 1) - cut a) ++ range_with_len f (cut (a + 1 + k) - cut (a + 1))) {x = cut (a + 1)} {y = cut a + (cut (a + 1) - cut a)} (omega (arith, r a))
    ∙ sym (range-split (cut a) (cut (a + 1) - cut a) (cut (a + 1 + k) - cut (a + 1)))
    ∙ ap (range_with_len (cut a)) {x = cut (a + 1) - cut a + (cut (a + 1 + k) - cut (a + 1))} {y = cut (a + suc k) - cut a} (omega (arith, r a, up, same))

-- cuts that rise from 0 to the count share all positions
pub ranges_are_all : (cut : ℕ → ℕ) (n count : ℕ) → cut 0 ≡ 0 → cut n ≡ count → ((p : ℕ) → cut p ≤ cut (p + 1))
    → AreAll count (map (λ p. own_range count (cut p) (cut (p + 1))) (range_with_len 0 n))
ranges_are_all cut n count z e r =
    let last : cut (0 + n) ≡ count = ap cut {x = 0 + n} {y = n} (omega arith) ∙ e in
    joined cut count r 0 n (omega (arith, last))
    ∙ ap (λ f. range_with_len f (cut (0 + n) - f)) z
    ∙ ap (range_with_len 0) {x = cut (0 + n) - 0} {y = count} (omega (arith, last))

-- ---- floors

pub whole_cut : (n count : ℕ) → 0 < n → share_begin n count n ≡ count
whole_cut n count p = ap (λ k. k / n) {x = n * count} {y = count * n + 0} (grind arith) ∙ div-mul-add count n 0 p

pub zero_cut : (n count : ℕ) → 0 < n → share_begin n count 0 ≡ 0
zero_cut n count p = ap (λ k. k / n) {x = 0 * count} {y = 0 * n + 0} (omega arith) ∙ div-mul-add 0 n 0 p

pub cuts_rise : (n count q r : ℕ) → 0 < n → q ≤ r → share_begin n count q ≤ share_begin n count r
cuts_rise n count q r p l =
    le-div (q * count / n) (r * count) n p (omega (arith, div-add-mod' (q * count) n, mul-le q count r count l (omega arith)))

-- a piece's layers lie within the whole
pub cut_within : (n count q : ℕ) → 0 < n → q ≤ n → share_begin n count q ≤ count
cut_within n count q p l = omega (arith, cuts_rise n count q n p l, whole_cut n count p)

-- with at least as many items as pieces, each cut comes later
pub cuts_differ : (n count q : ℕ) → 0 < n → n ≤ count → share_begin n count q < share_begin n count (q + 1)
cuts_differ n count q p l =
    let next : q * count / n + 1 ≤ (q + 1) * count / n = le-div (q * count / n + 1) ((q + 1) * count) n p (omega (arith, div-add-mod' (q * count) n, more (q * count / n), l)) in
    omega (arith, next)
  where
    more : (k : ℕ) → (k + 1) * n ≡ k * n + n
    more k = omega arith
