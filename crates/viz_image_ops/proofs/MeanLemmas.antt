-- Windows that move along an axis, the means in them, and their ranges.
use Rattle.std.proofs.Common.{◌≡◌, ℕ, ◌+◌, ◌-◌, ◌*◌, ◌/◌, ◌^◌, ◌<◌, ◌≤◌, ℤ, pos, negsuc, true, ◌≤ℤ◌, List, length, max, get_or, sym, ap, ap₂, ◌∙◌, subst, arith}
use Rattle.std.specs.Prelude.{neg_ℤ}
use Rattle.std.proofs.lemmas.Bool.{ltb-true, lt-ltb}
use Rattle.std.proofs.lemmas.Int.{ints}
use Rattle.std.proofs.Math.Nat.{div-lt_iff_lt-mul}
use Rattle.std.proofs.lemmas.Nat.{mul-le}
use Rattle.viz_column.specs.declared.kind.Kind8.{Kind8}
use Rattle.viz_column.specs.declared.kind.Kind8.TheVariants.{I8, U8, I16, U16, I32, U32, I64, U64}
use Rattle.viz_column.specs.Kinds.{fits, fits_signed, fits_unsigned}
use Rattle.viz_meaning.specs.ImageFilters.{sum_of, floor_of}
use Rattle.viz_extent.specs.Extent.{Bounds, size_of, size_x, size_y, IsExtent}
use Rattle.viz_image_ops.specs.declared.window.Axes.{Axes}
use Rattle.viz_image_ops.specs.declared.window.Axis.{Axis}
use Rattle.viz_image_ops.specs.Joined.{joined, run_of}
use Rattle.viz_image_ops.specs.Sums.{window_first, window_behind, window_size, IsReach, AreReaches, IsWithin, HasRoom, place_sum, ArePlaceSums, AreSumsOf, row_mean, plane_mean, place_mean, reach_below, reach_above}
use Rattle.viz_image_ops.proofs.SumLemmas.{sum_within, sum_same, place_below}
use Rattle.viz_image_ops.proofs.JoinedLemmas.{joined_same, run_same}

-- a window that is that of an index before, or lies before it
pub record IsBehind (a : Axis) (i first behind : ℕ) : Type 0 where
  pub from : first ≤ window_first a i
  pub to : behind ≤ window_behind a i
  pub order : first ≤ behind

-- at the start it is empty
pub behind_none : (a : Axis) (i : ℕ) → IsBehind a i 0 0
behind_none a i = record { from = omega arith; to = omega arith; order = omega arith }

-- the window of an index lies behind that of the next one
pub behind_more : (a : Axis) (i first behind : ℕ) → IsReach a i i → first ≡ window_first a i → behind ≡ window_behind a i → IsBehind a (i + 1) first behind
behind_more a i first behind reach is_first is_behind = record {
  from = omega (arith, is_first);
  to = omega (arith, is_behind);
  order = omega (arith, is_first, is_behind, reach.low, reach.high, reach.start);
}

-- each index between two reaches no further
pub reach_of : (a : Axis) (first last i : ℕ) → IsReach a first last → first ≤ i → i ≤ last → IsReach a i i
reach_of a first last i reach from to = record {
  low = omega (arith, reach.low);
  high = omega (arith, reach.high);
  limit = reach.limit;
  start = omega (arith, reach.start);
  end = omega (arith, reach.end);
}

-- of a window that is not clipped, and the one behind it
pub whole_first : (a : Axis) (i : ℕ) → a.start ≤ max a.lower (i - a.radius) → a.lower + a.radius ≤ i → window_first a (i + 1) ≡ window_first a i + 1
whole_first a i start low = omega (arith, start, low)

pub whole_behind : (a : Axis) (i : ℕ) → a.start ≤ max a.lower (i - a.radius) → a.lower + a.radius ≤ i → i + 1 + a.radius ≤ a.upper
    → window_behind a (i + 1) ≡ window_behind a i + 1
whole_behind a i start low high = omega (arith, start, low, high)

-- the window of an index is the one before it, one further
pub record IsWindow (a : Axis) (i first behind : ℕ) : Type 0 where
  pub from : first ≡ window_first a i
  pub to : behind ≡ window_behind a i

pub whole_next : (a : Axis) (before last i first behind : ℕ) → IsReach a before last → before + 1 ≤ i → i ≤ last → a.lower + a.radius ≤ before
    → last + a.radius ≤ a.upper → IsWindow a (i - 1) first behind → IsWindow a i (first + 1) (behind + 1)
whole_next a before last i first behind reach after until low high is =
    let h = i - 1 in
    let at : h + 1 ≡ i = omega (arith, after) in
    let start : a.start ≤ max a.lower (h - a.radius) = omega (arith, reach.start, after) in
    let above : a.lower + a.radius ≤ h = omega (arith, low, after) in
    let below : h + 1 + a.radius ≤ a.upper = omega (arith, high, until, after) in
    record {
      from = ap (λ (n : ℕ). n + 1) is.from ∙ sym (whole_first a h start above) ∙ ap (window_first a) at;
      to = ap (λ (n : ℕ). n + 1) is.to ∙ sym (whole_behind a h start above below) ∙ ap (window_behind a) at;
    }

-- a number in the range of a kind, by its size
signed_within : (bits : ℕ) (n : ℤ) → fits_signed bits n ≡ true → IsWithin (2 ^ bits) (2 ^ bits - 1) n
signed_within bits (pos n) fit = let below = ltb-true n (2 ^ bits) fit in record { at_least = omega (arith, ints); at_most = omega (arith, ints, below) }
signed_within bits (negsuc n) fit = let below = ltb-true n (2 ^ bits) fit in record { at_least = omega (arith, ints, below); at_most = omega (arith, ints) }

unsigned_within : (bits : ℕ) (n : ℤ) → fits_unsigned bits n ≡ true → IsWithin 0 (2 ^ bits - 1) n
unsigned_within bits (pos n) fit = let below = ltb-true n (2 ^ bits) fit in record { at_least = omega (arith, ints); at_most = omega (arith, ints, below) }
unsigned_within bits (negsuc n) fit = cc

pub within_fits : (kind : Kind8) (n : ℤ) → fits kind n ≡ true → IsWithin (reach_below kind) (reach_above kind) n
within_fits I8 n = signed_within 7 n
within_fits U8 n = unsigned_within 8 n
within_fits I16 n = signed_within 15 n
within_fits U16 n = unsigned_within 16 n
within_fits I32 n = signed_within 31 n
within_fits U32 n = unsigned_within 32 n
within_fits I64 n = signed_within 63 n
within_fits U64 n = unsigned_within 64 n

-- and the other way round
fits_signed_of : (bits : ℕ) (n : ℤ) → 0 < 2 ^ bits → IsWithin (2 ^ bits) (2 ^ bits - 1) n → fits_signed bits n ≡ true
fits_signed_of bits (pos n) some within = lt-ltb n (2 ^ bits) (let most = within.at_most in omega (arith, ints, most))
fits_signed_of bits (negsuc n) some within = lt-ltb n (2 ^ bits) (let least = within.at_least in omega (arith, ints, least))

fits_unsigned_of : (bits : ℕ) (n : ℤ) → 0 < 2 ^ bits → IsWithin 0 (2 ^ bits - 1) n → fits_unsigned bits n ≡ true
fits_unsigned_of bits (pos n) some within = lt-ltb n (2 ^ bits) (let most = within.at_most in omega (arith, ints, most))
fits_unsigned_of bits (negsuc n) some within = absurd (below_none n within.at_least)
  where
    below_none : (n : ℕ) → neg_ℤ (pos 0) ≤ℤ negsuc n → ⊥
    below_none n least = omega (arith, ints)

pub fits_within : (kind : Kind8) (n : ℤ) → IsWithin (reach_below kind) (reach_above kind) n → fits kind n ≡ true
fits_within I8 n = fits_signed_of 7 n (omega arith)
fits_within U8 n = fits_unsigned_of 8 n (omega arith)
fits_within I16 n = fits_signed_of 15 n (omega arith)
fits_within U16 n = fits_unsigned_of 16 n (omega arith)
fits_within I32 n = fits_signed_of 31 n (omega arith)
fits_within U32 n = fits_unsigned_of 32 n (omega arith)
fits_within I64 n = fits_signed_of 63 n (omega arith)
fits_within U64 n = fits_unsigned_of 64 n (omega arith)

-- the quotient of a sum of so many, rounded down, lies where each of them does
pub floor_within : (below above d : ℕ) (n : ℤ) → 0 < d → IsWithin (d * below) (d * above) n → IsWithin below above (floor_of n d)
floor_within below above d (pos n) some within =
    let most : n ≤ d * above = let to = within.at_most in omega (arith, ints, to) in
    let under : n < (above + 1) * d = let product : (above + 1) * d ≡ d * above + d = omega arith in omega (arith, product) in
    let quotient : n / d < above + 1 = (div-lt_iff_lt-mul some).1 under in
    record { at_least = omega (arith, ints); at_most = omega (arith, ints, quotient) }
floor_within below above d (negsuc n) some within =
    let least : n < below * d = let from = within.at_least in let product : d * below ≡ below * d = omega arith in omega (arith, ints, from, product) in
    let quotient : n / d < below = (div-lt_iff_lt-mul some).1 least in
    record { at_least = omega (arith, ints, quotient); at_most = omega (arith, ints) }

pub mean_fits : (kind : Kind8) (sum : ℤ) (count : ℕ) → 0 < count → IsWithin (count * reach_below kind) (count * reach_above kind) sum
    → fits kind (floor_of sum count) ≡ true
mean_fits kind sum count some within =
    fits_within kind (floor_of sum count) (floor_within (reach_below kind) (reach_above kind) count sum some within)

-- sums of so many may be summed up in a window of so many more
pub room_of : (kind : Kind8) (xs : List ℤ) (count places : ℕ) → AreSumsOf kind count xs → count * places < 2 ^ 31 → HasRoom places xs
room_of kind xs count places are few =
    record {
      bound = count * 2 ^ 64;
      within = λ p below.
          let here = are p below in
          let low : count * reach_below kind ≤ count * 2 ^ 64 = mul-le count (reach_below kind) count (2 ^ 64) (omega arith) (below_most kind) in
          let high : count * reach_above kind ≤ count * 2 ^ 64 = mul-le count (reach_above kind) count (2 ^ 64) (omega arith) (above_most kind) in
          widened (count * reach_below kind) (count * reach_above kind) (count * 2 ^ 64) (get_or xs p (pos 0)) here low high;
      most =
          let product : places * (count * 2 ^ 64) ≡ count * places * 2 ^ 64 = omega arith in
          let most : count * places * 2 ^ 64 ≤ 2 ^ 31 * 2 ^ 64 = mul-le (count * places) (2 ^ 64) (2 ^ 31) (2 ^ 64) (omega arith) (omega arith) in
          omega (arith, product, most);
    }
  where
    below_most : (kind : Kind8) → reach_below kind ≤ 2 ^ 64
    below_most I8 = omega arith
    below_most U8 = omega arith
    below_most I16 = omega arith
    below_most U16 = omega arith
    below_most I32 = omega arith
    below_most U32 = omega arith
    below_most I64 = omega arith
    below_most U64 = omega arith

    above_most : (kind : Kind8) → reach_above kind ≤ 2 ^ 64
    above_most I8 = omega arith
    above_most U8 = omega arith
    above_most I16 = omega arith
    above_most U16 = omega arith
    above_most I32 = omega arith
    above_most U32 = omega arith
    above_most I64 = omega arith
    above_most U64 = omega arith

    widened : (b a d : ℕ) (z : ℤ) → IsWithin b a z → b ≤ d → a ≤ d → IsWithin d d z
    widened b a d z within low high = record {
      at_least = omega (arith, ints, within.at_least, low);
      at_most = omega (arith, ints, within.at_most, high);
    }

-- a sum of so many sums of so many each
sum_of_sums : (kind : Kind8) (count first n : ℕ) (f : ℕ → ℤ) → ((m : ℕ) → m < n → IsWithin (count * reach_below kind) (count * reach_above kind) (f (first + m)))
    → IsWithin (count * n * reach_below kind) (count * n * reach_above kind) (sum_of f first n)
sum_of_sums kind count first n f each =
    let low : n * (count * reach_below kind) ≡ count * n * reach_below kind = omega arith in
    let high : n * (count * reach_above kind) ≡ count * n * reach_above kind = omega arith in
    subst (λ (b : ℕ). IsWithin b (count * n * reach_above kind) (sum_of f first n)) low
    (subst (λ (a : ℕ). IsWithin (n * (count * reach_below kind)) a (sum_of f first n)) high
    (sum_within (count * reach_below kind) (count * reach_above kind) f first n each))

-- the sum of a row in a window
pub row_sum_within : (kind : Kind8) (row : List ℤ) (rows first n : ℕ) → AreSumsOf kind rows row → first + n ≤ length row
    → IsWithin (rows * n * reach_below kind) (rows * n * reach_above kind) (sum_of (λ p. get_or row p (pos 0)) first n)
row_sum_within kind row rows first n are inside =
    sum_of_sums kind rows first n (λ p. get_or row p (pos 0)) (λ m below. are (first + m) (omega (arith, inside)))

-- the sums of lists in a window
pub place_sums_within : (kind : Kind8) (xs sums : List ℤ) (count first behind lists : ℕ) → AreSumsOf kind count xs → ArePlaceSums xs first behind sums
    → behind ≤ lists → lists * length sums ≤ length xs → AreSumsOf kind (count * (behind - first)) sums
place_sums_within kind xs sums count first behind lists are sums_are few enough p below =
    let long = length sums in
    let value = λ (c : ℕ). get_or xs (c * long + p) (pos 0) in
    subst (λ (z : ℤ). IsWithin (count * (behind - first) * reach_below kind) (count * (behind - first) * reach_above kind) z) (sym (sums_are p below))
    (sum_of_sums kind count first (behind - first) value (λ m lt.
    are ((first + m) * long + p) (place_below (first + m) long p lists (length xs) below (omega arith) enough)))

-- room for fewer
pub less_room : (xs : List ℤ) (m n : ℕ) → HasRoom n xs → m ≤ n → HasRoom m xs
less_room xs m n room few =
    let most : m * room.bound ≤ n * room.bound = mul-le m room.bound n room.bound few (omega arith) in
    record { bound = room.bound; within = room.within; most = omega (arith, most, room.most) }

-- an axis that windows lie on has a place
pub some_places : (a : Axis) (first last : ℕ) → IsReach a first last → first ≤ last → 0 < a.places
some_places a first last reach order = omega (arith, reach.low, reach.high, reach.start, reach.end)

-- the places of the windows of indices from a first to a last one
pub window_places : (a : Axis) (first last i : ℕ) → IsReach a first last → first ≤ i → i ≤ last → window_behind a i ≤ a.places
window_places a first last i reach from to = omega (arith, reach.end)

-- few lists of few lists
pub few_lists : (x y z planes n : ℕ) → 0 < x → planes ≤ z → n ≤ y → x * y * z < 2 ^ 31 → planes * n < 2 ^ 31
few_lists x y z planes n some few_planes few_rows few =
    let some_rows : planes * n ≤ z * y = mul-le planes n z y few_planes few_rows in
    let all : 1 * (z * y) ≤ x * (z * y) = mul-le 1 (z * y) x (z * y) some (omega arith) in
    let product : x * (z * y) ≡ x * y * z = omega arith in
    omega (arith, some_rows, all, product, few)

-- few numbers in few lists of few lists
pub few_numbers : (x y z planes n : ℕ) → planes ≤ z → n ≤ y → x * y * z < 2 ^ 31 → planes * n * x < 2 ^ 31
few_numbers x y z planes n few_planes few_rows few =
    let some_rows : planes * n ≤ z * y = mul-le planes n z y few_planes few_rows in
    let all : planes * n * x ≤ z * y * x = mul-le (planes * n) x (z * y) x some_rows (omega arith) in
    let product : z * y * x ≡ x * y * z = omega arith in
    omega (arith, all, product, few)

-- a product of two numbers above 0
pub some_product : (m n : ℕ) → 0 < m → 0 < n → 0 < m * n
some_product m n some_m some_n = let product = mul-le 1 1 m n some_m some_n in omega (arith, product)

-- in a row of sums of a plane there are the means of the plane
pub rows_are : (plane row : List ℤ) (planes : ℕ) (axes : Axes) (j first behind x0 x1 : ℕ) → IsReach axes.x x0 x1 → x0 ≤ x1 → length row ≡ axes.x.places
    → ArePlaceSums plane first behind row → first ≡ window_first axes.y j → behind ≡ window_behind axes.y j
    → run_of (row_mean row (planes * (behind - first)) axes.x) x0 (size_of x0 x1) ≡ run_of (λ i. plane_mean plane planes axes i j) x0 (size_of x0 x1)
rows_are plane row planes axes j first behind x0 x1 reach order long sums is_first is_behind =
    let size : behind - first ≡ window_size axes.y j = ap₂ (λ (a b : ℕ). a - b) is_behind is_first in
    run_same (row_mean row (planes * (behind - first)) axes.x) (λ i. plane_mean plane planes axes i j) x0 x0 (size_of x0 x1) (λ m below.
    let i = x0 + m in
    let places = window_places axes.x x0 x1 i reach (omega arith) (omega (arith, below, order)) in
    ap₂ floor_of
    (sum_same (λ p. get_or row p (pos 0)) (λ p. place_sum plane axes.x.places (window_first axes.y j) (window_size axes.y j) p) (window_first axes.x i) (window_first axes.x i) (window_size axes.x i) (λ q lt.
    let p = window_first axes.x i + q in
    let here : p < length row = omega (arith, lt, places, long) in
    sums p here ∙ ap (λ (n : ℕ). place_sum plane n first (behind - first) p) long
    ∙ ap₂ (λ (a n : ℕ). place_sum plane axes.x.places a n p) is_first size))
    (ap (λ (n : ℕ). planes * n * window_size axes.x i) size))

-- in a plane of sums of all numbers there are the means of all
pub planes_are : (xs plane : List ℤ) (axes : Axes) (out : Bounds) (k first behind : ℕ) → AreReaches axes out → IsExtent out
    → length plane ≡ axes.x.places * axes.y.places → ArePlaceSums xs first behind plane → first ≡ window_first axes.z k → behind ≡ window_behind axes.z k
    → joined (λ j. run_of (λ i. plane_mean plane (behind - first) axes i j) out.x0 (size_x out)) out.y0 (size_y out)
    ≡ joined (λ j. run_of (λ i. place_mean xs axes i j k) out.x0 (size_x out)) out.y0 (size_y out)
planes_are xs plane axes out k first behind reaches valid long sums is_first is_behind =
    let size : behind - first ≡ window_size axes.z k = ap₂ (λ (a b : ℕ). a - b) is_behind is_first in
    let width = axes.x.places in
    let sum = λ (p : ℕ). place_sum xs (width * axes.y.places) (window_first axes.z k) (window_size axes.z k) p in
    joined_same (λ j. run_of (λ i. plane_mean plane (behind - first) axes i j) out.x0 (size_x out)) (λ j. run_of (λ i. place_mean xs axes i j k) out.x0 (size_x out)) out.y0 out.y0 (size_y out) (λ n lt_y.
    let j = out.y0 + n in
    let rows = window_places axes.y out.y0 out.y1 j reaches.y (omega arith) (omega (arith, lt_y, valid.y.order)) in
    run_same (λ i. plane_mean plane (behind - first) axes i j) (λ i. place_mean xs axes i j k) out.x0 out.x0 (size_x out) (λ m lt_x.
    let i = out.x0 + m in
    let places = window_places axes.x out.x0 out.x1 i reaches.x (omega arith) (omega (arith, lt_x, valid.x.order)) in
    ap₂ floor_of
    (sum_same (λ p. place_sum plane width (window_first axes.y j) (window_size axes.y j) p) (λ p. sum_of (λ b. sum (b * width + p)) (window_first axes.y j) (window_size axes.y j)) (window_first axes.x i) (window_first axes.x i) (window_size axes.x i) (λ q lt.
    let p = window_first axes.x i + q in
    let in_row : p < width = omega (arith, lt, places) in
    sum_same (λ b. get_or plane (b * width + p) (pos 0)) (λ b. sum (b * width + p)) (window_first axes.y j) (window_first axes.y j) (window_size axes.y j) (λ s lt_s.
    let b = window_first axes.y j + s in
    let row : b < axes.y.places = omega (arith, lt_s, rows) in
    let product : axes.y.places * width ≡ width * axes.y.places = omega arith in
    let here : b * width + p < length plane = place_below b width p axes.y.places (length plane) in_row row (omega (arith, product, long)) in
    sums (b * width + p) here ∙ ap (λ (n : ℕ). place_sum xs n first (behind - first) (b * width + p)) long
    ∙ ap₂ (λ (a n : ℕ). place_sum xs (width * axes.y.places) a n (b * width + p)) is_first size)))
    (ap (λ (n : ℕ). n * window_size axes.y j * window_size axes.x i) size)))

-- few planes
pub few_planes : (x y z n : ℕ) → 0 < x → 0 < y → n ≤ z → x * y * z < 2 ^ 31 → 1 * n < 2 ^ 31
few_planes x y z n some_x some_y below few =
    let some : 0 < x * y = some_product x y some_x some_y in
    let all : 1 * n ≤ x * y * z = mul-le 1 n (x * y) z some below in
    omega (arith, all, few)
