-- Words and their bits, the lowest first.
use Rattle.std.proofs.Common.{◌≡◌, ℕ, zero, suc, ◌+◌, ◌-◌, ◌*◌, ◌/◌, ◌%◌, ◌^◌, ◌<◌, ◌≤◌, ◌==◌, Bool, true, false, List, [], ◌∷◌, ◌++◌, length, get_or, refl, sym, ap, ap₂, ◌∙◌, arith, append_assoc, append-nil, ⊎_elim, pow-add, pow_mono}
use Rattle.std.specs.Int.{bit_at}
use Rattle.std.specs.List.{flat_map}
use Rattle.std.proofs.Math.Nat.{div-div-eq-div-mul, div-eq_of_lt, pow-succ'}
use Rattle.std.proofs.lemmas.List.{get_or_append_left, get_or-append_right, length-append}
use Rattle.std.proofs.lemmas.Nat.{div-mul-add}
use Rattle.std.proofs.lemmas.Bool.{cases_lt}
use Rattle.std.proofs.lemmas.List.{get_or_past}
use Rattle.std.proofs.lemmas.Nat.Bits.{bit_at-zero, bit_at_cat_high, bit_at_cat_low}
use lib.Lanes.{mask_l}
use Rattle.viz_lanes.specs.Kept.{low_bits, bits_of}

-- there are so many
length-low_bits : (n x : ℕ) → length (low_bits n x) ≡ n
length-low_bits zero x = refl
length-low_bits (suc n) x = ap suc (length-low_bits n (x / 2))

halves : (x n : ℕ) → x / 2 / 2 ^ n ≡ x / 2 ^ suc n
halves x n = div-div-eq-div-mul x 2 (2 ^ n) ∙ ap (λ (k : ℕ). x / k) (sym (pow-succ' 2 n))

-- each bit, by its place
get_or-low_bits : (n x k : ℕ) → k < n → get_or (low_bits n x) k false ≡ (x / 2 ^ k % 2 == 1)
get_or-low_bits zero x k lt = absurd (omega (arith, lt))
get_or-low_bits (suc n) x zero lt = ap (λ (y : ℕ). y % 2 == 1) (omega arith)
get_or-low_bits (suc n) x (suc k) lt =
    get_or-low_bits n (x / 2) k (omega arith) ∙ ap (λ (y : ℕ). y % 2 == 1) (halves x k)

-- one bit more stands at the end
low_bits-last : (n x : ℕ) → low_bits (suc n) x ≡ low_bits n x ++ (x / 2 ^ n % 2 == 1) ∷ []
low_bits-last zero x = let same : x ≡ x / 1 = omega arith in ap (λ (y : ℕ). (y % 2 == 1) ∷ []) same
low_bits-last (suc n) x =
    ap (λ bs. (x % 2 == 1) ∷ bs) (low_bits-last n (x / 2))
    ∙ ap (λ (y : ℕ). (x % 2 == 1) ∷ (low_bits n (x / 2) ++ (y % 2 == 1) ∷ [])) (halves x n)

-- a bit above them changes none
low_bits-above : (n x : ℕ) → low_bits n (x + 2 ^ n) ≡ low_bits n x
low_bits-above zero x = refl
low_bits-above (suc n) x =
    let twice : 2 ^ suc n ≡ 2 * 2 ^ n = pow-succ' 2 n in
    let first : (x + 2 ^ suc n) % 2 ≡ x % 2 = rw twice (omega arith) in
    let rest : (x + 2 ^ suc n) / 2 ≡ x / 2 + 2 ^ n = rw twice (omega arith) in
    ap₂ (λ (a b : ℕ). (a == 1) ∷ low_bits n b) first rest ∙ ap (λ bs. (x % 2 == 1) ∷ bs) (low_bits-above n (x / 2))

more : (n x : ℕ) → low_bits (n + 1) x ≡ low_bits (suc n) x
more n x = let same : n + 1 ≡ suc n = omega arith in ap (λ (k : ℕ). low_bits k x) same

-- a set bit more, and a clear one
pub set_last : (n x : ℕ) → x < 2 ^ n → low_bits (n + 1) (x + 2 ^ n) ≡ low_bits n x ++ true ∷ []
set_last n x small =
    let swap : x + 2 ^ n ≡ 1 * 2 ^ n + x = omega arith in
    let one : (x + 2 ^ n) / 2 ^ n ≡ 1 = ap (λ (y : ℕ). y / 2 ^ n) swap ∙ div-mul-add 1 (2 ^ n) x small in
    more n (x + 2 ^ n) ∙ low_bits-last n (x + 2 ^ n) ∙ ap₂ (λ bs (y : ℕ). bs ++ (y % 2 == 1) ∷ []) (low_bits-above n x) one

pub clear_last : (n x : ℕ) → x < 2 ^ n → low_bits (n + 1) x ≡ low_bits n x ++ false ∷ []
clear_last n x small =
    let none : x / 2 ^ n ≡ 0 = div-eq_of_lt small in
    more n x ∙ low_bits-last n x ∙ ap (λ (y : ℕ). low_bits n x ++ (y % 2 == 1) ∷ []) none

-- the bits of a mask are the truth values of which it is made
pub low_bits-mask : (bs : List Bool) → low_bits (length bs) (mask_l bs) ≡ bs
low_bits-mask [] = refl
low_bits-mask (true ∷ bs) =
    let first : (1 + 2 * mask_l bs) % 2 ≡ 1 = omega arith in
    let rest : (1 + 2 * mask_l bs) / 2 ≡ mask_l bs = omega arith in
    ap₂ (λ (a b : ℕ). (a == 1) ∷ low_bits (length bs) b) first rest ∙ ap (λ cs. true ∷ cs) (low_bits-mask bs)
low_bits-mask (false ∷ bs) =
    let first : (0 + 2 * mask_l bs) % 2 ≡ 0 = omega arith in
    let rest : (0 + 2 * mask_l bs) / 2 ≡ mask_l bs = omega arith in
    ap₂ (λ (a b : ℕ). (a == 1) ∷ low_bits (length bs) b) first rest ∙ ap (λ cs. false ∷ cs) (low_bits-mask bs)

-- each word has 64
length-words : (ws : List ℕ) → length (flat_map (λ x. low_bits 64 x) ws) ≡ 64 * length ws
length-words [] = refl
length-words (w ∷ ws) =
    let both = length-append (low_bits 64 w) (flat_map (λ x. low_bits 64 x) ws) in
    let first = length-low_bits 64 w in
    let rest = length-words ws in
    omega (arith, both, first, rest)

pub length-bits : (ws : List ℕ) (used last : ℕ) → length (bits_of ws used last) ≡ 64 * length ws + used
length-bits ws used last =
    let both = length-append (flat_map (λ x. low_bits 64 x) ws) (low_bits used last) in
    let first = length-words ws in
    let rest = length-low_bits used last in
    omega (arith, both, first, rest)

-- a bit of a whole word
in_words : (ws : List ℕ) (q r : ℕ) → q < length ws → r < 64
    → get_or (flat_map (λ x. low_bits 64 x) ws) (64 * q + r) false ≡ (get_or ws q 0 / 2 ^ r % 2 == 1)
in_words [] q r lt small = absurd (omega (arith, lt))
in_words (w ∷ ws) zero r lt small =
    let long : r < length (low_bits 64 w) = rw (length-low_bits 64 w) small in
    let first : 64 * 0 + r ≡ r = omega arith in
    ap (λ (k : ℕ). get_or (flat_map (λ x. low_bits 64 x) (w ∷ ws)) k false) first
    ∙ get_or_append_left (low_bits 64 w) (flat_map (λ x. low_bits 64 x) ws) false r long ∙ get_or-low_bits 64 w r small
in_words (w ∷ ws) (suc q) r lt small =
    let behind : 64 * suc q + r - 64 ≡ 64 * q + r = omega arith in
    get_or-append_right (low_bits 64 w) (flat_map (λ x. low_bits 64 x) ws) 64 (64 * suc q + r) false (length-low_bits 64 w) (omega arith)
    ∙ ap (λ (k : ℕ). get_or (flat_map (λ x. low_bits 64 x) ws) k false) behind
    ∙ in_words ws q r (omega arith) small

pub bit_of_words : (ws : List ℕ) (used last i : ℕ) → i / 64 < length ws
    → (get_or ws (i / 64) 0 / 2 ^ (i % 64) % 2 == 1) ≡ get_or (bits_of ws used last) i false
bit_of_words ws used last i lt =
    let apart : i ≡ 64 * (i / 64) + i % 64 = omega arith in
    let count = length-words ws in
    let front : i < length (flat_map (λ x. low_bits 64 x) ws) = omega (arith, count, lt) in
    sym (get_or_append_left (flat_map (λ x. low_bits 64 x) ws) (low_bits used last) false i front
    ∙ ap (λ (k : ℕ). get_or (flat_map (λ x. low_bits 64 x) ws) k false) apart
    ∙ in_words ws (i / 64) (i % 64) lt (omega arith))

pub bit_of_last : (ws : List ℕ) (used last i : ℕ) → used < 64 → length ws ≤ i / 64 → i < length (bits_of ws used last)
    → (last / 2 ^ (i % 64) % 2 == 1) ≡ get_or (bits_of ws used last) i false
bit_of_last ws used last i few le lt =
    let count = length-words ws in
    let whole = length-bits ws used last in
    let behind : i - 64 * length ws ≡ i % 64 = omega (arith, whole, lt, le, few) in
    let inside : i % 64 < used = omega (arith, whole, lt, le, few) in
    sym (get_or-append_right (flat_map (λ x. low_bits 64 x) ws) (low_bits used last) (64 * length ws) i false count (omega (arith, le))
    ∙ ap (λ (k : ℕ). get_or (low_bits used last) k false) behind
    ∙ get_or-low_bits used last (i % 64) inside)

-- one word more
one_word_more : (ws : List ℕ) (w : ℕ) → flat_map (λ x. low_bits 64 x) (ws ++ w ∷ []) ≡ flat_map (λ x. low_bits 64 x) ws ++ low_bits 64 w
one_word_more [] w = append-nil (low_bits 64 w)
one_word_more (v ∷ ws) w =
    ap (λ bs. low_bits 64 v ++ bs) (one_word_more ws w) ∙ sym (append_assoc (low_bits 64 v) (flat_map (λ x. low_bits 64 x) ws) (low_bits 64 w))

-- the last bit of a word fills it
pub word_filled : (ws vs : List ℕ) (used last word : ℕ) (bit : Bool) → used ≡ 63 → vs ≡ ws ++ word ∷ []
    → low_bits (used + 1) word ≡ low_bits used last ++ bit ∷ [] → bits_of vs 0 0 ≡ bits_of ws used last ++ bit ∷ []
word_filled ws vs used last word bit full new is =
    let bits : low_bits 64 word ≡ low_bits used last ++ bit ∷ [] = ap (λ (n : ℕ). low_bits (n + 1) word) (sym full) ∙ is in
    append-nil (flat_map (λ x. low_bits 64 x) vs) ∙ ap (flat_map (λ x. low_bits 64 x)) new ∙ one_word_more ws word
    ∙ ap (λ bs. flat_map (λ x. low_bits 64 x) ws ++ bs) bits
    ∙ sym (append_assoc (flat_map (λ x. low_bits 64 x) ws) (low_bits used last) (bit ∷ []))

-- a whole word behind whole words
pub word_added : (ws vs : List ℕ) (used last word : ℕ) → used < 64 → length (bits_of ws used last) % 64 ≡ 0 → vs ≡ ws ++ word ∷ []
    → bits_of vs used last ≡ bits_of ws used last ++ low_bits 64 word
word_added ws vs used last word few aligned new =
    let whole = length-bits ws used last in
    let none : used ≡ 0 = omega (arith, whole, aligned, few) in
    let empty : low_bits used last ≡ [] = ap (λ (n : ℕ). low_bits n last) none in
    let before : bits_of ws used last ≡ flat_map (λ x. low_bits 64 x) ws = ap (λ bs. flat_map (λ x. low_bits 64 x) ws ++ bs) empty ∙ append-nil _ in
    ap₂ (λ us bs. flat_map (λ x. low_bits 64 x) us ++ bs) new empty
    ∙ append-nil _ ∙ one_word_more ws word ∙ ap (λ bs. bs ++ low_bits 64 word) (sym before)

-- ---- 64 bits from any bit on

-- a bit of a whole word, by the word's index
pub bit_of_word : (ws : List ℕ) (used last i t : ℕ) → i < length ws → t < 64
    → (bit_at (get_or ws i 0) t == 1) ≡ get_or (bits_of ws used last) (64 * i + t) false
bit_of_word ws used last i t lt small =
    let word : (64 * i + t) / 64 ≡ i = omega (arith, small) in
    let bit : (64 * i + t) % 64 ≡ t = omega (arith, small) in
    ap₂ (λ (q r : ℕ). get_or ws q 0 / 2 ^ r % 2 == 1) (sym word) (sym bit)
    ∙ bit_of_words ws used last (64 * i + t) (omega (arith, word, lt))

-- a bit of the word behind them, and none past the last
pub bit_behind : (ws : List ℕ) (used last i t : ℕ) → used < 64 → last < 2 ^ used → i ≡ length ws → t < 64
    → (bit_at last t == 1) ≡ get_or (bits_of ws used last) (64 * i + t) false
bit_behind ws used last i t few low is small =
    let whole = length-bits ws used last in
    let bit : (64 * i + t) % 64 ≡ t = omega (arith, small) in
    ⊎_elim
    (λ less.
    ap (λ (r : ℕ). last / 2 ^ r % 2 == 1) (sym bit)
    ∙ bit_of_last ws used last (64 * i + t) few (omega (arith, is)) (omega (arith, whole, is, less)))
    (λ more.
    let none : last / 2 ^ t ≡ 0 = div-eq_of_lt (omega (arith, low, pow_mono more)) in
    ap (λ (k : ℕ). k % 2 == 1) none
    ∙ sym (get_or_past (bits_of ws used last) (64 * i + t) false (omega (arith, whole, is, more))))
    (cases_lt t used)

pub none_behind : (ws : List ℕ) (used last i t : ℕ) → used < 64 → length ws < i
    → (bit_at 0 t == 1) ≡ get_or (bits_of ws used last) (64 * i + t) false
none_behind ws used last i t few past =
    let whole = length-bits ws used last in
    ap (λ (k : ℕ). k == 1) (bit_at-zero t) ∙ sym (get_or_past (bits_of ws used last) (64 * i + t) false (omega (arith, whole, past, few)))

-- a bit of a quotient, and of a remainder
bit-quotient : (n s t : ℕ) → bit_at (n / 2 ^ s) t ≡ bit_at n (s + t)
bit-quotient n s t = ap (λ k. k % 2) (div-div-eq-div-mul n (2 ^ s) (2 ^ t) ∙ ap (λ k. n / k) (sym (pow-add 2 s t)))

bit-low : (n t : ℕ) → t < 64 → bit_at (n % 2 ^ 64) t ≡ bit_at n t
bit-low n t l =
    let whole : n / 2 ^ 64 * 2 ^ 64 + n % 2 ^ 64 ≡ n = omega arith in
    sym (bit_at_cat_low (n / 2 ^ 64) 64 (n % 2 ^ 64) t l) ∙ ap (λ k. bit_at k t) whole

pub bit_of_both : (n s t : ℕ) → t < 64 → bit_at (n / 2 ^ s % 2 ^ 64) t ≡ bit_at n (s + t)
bit_of_both n s t l = bit-low (n / 2 ^ s) t l ∙ bit-quotient n s t

-- the bits of two words in turn are those of a list
pub bit_of_two : (bs : List Bool) (at t low high : ℕ) → low < 2 ^ 64 → t < 64
    → ((u : ℕ) → u < 64 → (bit_at low u == 1) ≡ get_or bs (64 * (at / 64) + u) false)
    → ((u : ℕ) → u < 64 → (bit_at high u == 1) ≡ get_or bs (64 * (at / 64 + 1) + u) false)
    → (bit_at (high * 2 ^ 64 + low) (at % 64 + t) == 1) ≡ get_or bs (at + t) false
bit_of_two bs at t low high below l first second =
    let s = at % 64 in
    ⊎_elim
    (λ less.
    ap (λ (k : ℕ). k == 1) (bit_at_cat_low high 64 low (s + t) less) ∙ first (s + t) less
    ∙ ap (λ (k : ℕ). get_or bs k false) {x = 64 * (at / 64) + (s + t)} {y = at + t} (omega arith))
    (λ more.
    ap (λ (k : ℕ). k == 1) (bit_at_cat_high high 64 low (s + t) below more) ∙ second (s + t - 64) (omega (arith, l))
    ∙ ap (λ (k : ℕ). get_or bs k false) {x = 64 * (at / 64 + 1) + (s + t - 64)} {y = at + t} (omega (arith, more)))
    (cases_lt (s + t) 64)
