-- Sums of values at indices that follow each other.
use Rattle.std.proofs.Common.{◌≡◌, ℕ, zero, suc, ◌+◌, ◌-◌, ◌*◌, ◌^◌, ◌<◌, ◌≤◌, ℤ, pos, ◌+ℤ◌, ◌-ℤ◌, ◌≢◌, List, length, map, get_or, set, take, drop, to_z, of_z, FitsSigned, refl, sym, ap, ap₂, ◌∙◌, arith, inl, inr}
use Rattle.std.specs.Int.{w128}
use Rattle.std.proofs.lemmas.Bool.{cases_lt}
use Rattle.std.proofs.lemmas.Int.{ints}
use Rattle.std.proofs.lemmas.List.{length-drop, length-take-le, get_or-take, get_or-drop, get_or-set_same, get_or-set_other, take-map, drop-map}
use Rattle.std.proofs.lemmas.Nat.{mul-le, mul-add-lt}
use Rattle.viz_meaning.specs.ImageFilters.{sum_of}
use Rattle.viz_image_ops.specs.Sums.{IsWithin, AreWithin, HasRoom, place_sum, ArePlaceSums}

-- one value more at the end
pub sum_more : (f : ℕ → ℤ) (first n : ℕ) → sum_of f first (n + 1) ≡ sum_of f first n +ℤ f (first + n)
sum_more f first n = let next : n + 1 ≡ suc n = omega arith in ap (sum_of f first) next

-- one value less at the start
pub sum_less : (f : ℕ → ℤ) (first n : ℕ) → sum_of f first (n + 1) ≡ f first +ℤ sum_of f (first + 1) n
sum_less f first zero =
    let start : first + 0 ≡ first = omega arith in
    let here : f (first + 0) ≡ f first = ap f start in
    sum_more f first 0 ∙ omega (arith, ints, here)
sum_less f first (suc n) =
    let so_far = sum_less f first n in
    let next : n + 1 ≡ suc n = omega arith in
    let again : sum_of f first (suc n) ≡ f first +ℤ sum_of f (first + 1) n = sym (ap (sum_of f first) next) ∙ so_far in
    let place : first + suc n ≡ first + 1 + n = omega arith in
    let last : f (first + suc n) ≡ f (first + 1 + n) = ap f place in
    sum_more f first (suc n) ∙ omega (arith, ints, again, last)

-- values that are the same one by one
pub sum_same : (f g : ℕ → ℤ) (a b n : ℕ) → ((m : ℕ) → m < n → f (a + m) ≡ g (b + m)) → sum_of f a n ≡ sum_of g b n
sum_same f g a b zero same = refl
sum_same f g a b (suc n) same =
    ap₂ (λ (x y : ℤ). x +ℤ y) (sum_same f g a b n (λ m below. same m (omega arith))) (same n (omega arith))

-- of a sum of two values each
sum_plus : (f g : ℕ → ℤ) (first n : ℕ) → sum_of (λ c. f c +ℤ g c) first n ≡ sum_of f first n +ℤ sum_of g first n
sum_plus f g first zero = refl
sum_plus f g first (suc n) = let so_far = sum_plus f g first n in omega (arith, ints, so_far)

-- a sum of nothing
sum_zero : (first n : ℕ) → sum_of (λ c. pos 0) first n ≡ pos 0
sum_zero first zero = refl
sum_zero first (suc n) = let so_far = sum_zero first n in omega (arith, ints, so_far)

-- sums of sums in either order
pub sum_swap : (f : ℕ → ℕ → ℤ) (a m b n : ℕ) → sum_of (λ x. sum_of (λ y. f x y) b n) a m ≡ sum_of (λ y. sum_of (λ x. f x y) a m) b n
sum_swap f a m b zero = sum_zero a m
sum_swap f a m b (suc n) =
    sum_plus (λ x. sum_of (λ y. f x y) b n) (λ x. f x (b + n)) a m
    ∙ ap (λ (t : ℤ). t +ℤ sum_of (λ x. f x (b + n)) a m) (sum_swap f a m b n)

-- a sum of so many values from -below to above
pub sum_within : (below above : ℕ) (f : ℕ → ℤ) (first n : ℕ) → ((m : ℕ) → m < n → IsWithin below above (f (first + m)))
    → IsWithin (n * below) (n * above) (sum_of f first n)
sum_within below above f first zero each = record { at_least = omega (arith, ints); at_most = omega (arith, ints) }
sum_within below above f first (suc n) each =
    let so_far = sum_within below above f first n (λ m lt. each m (omega arith)) in
    let here = each n (omega arith) in
    let low : suc n * below ≡ n * below + below = omega arith in
    let high : suc n * above ≡ n * above + above = omega arith in
    more (n * below) (n * above) below above (suc n * below) (suc n * above) (sum_of f first n) (f (first + n)) so_far here low high
  where
    more : (b a d e low high : ℕ) (x y : ℤ) → IsWithin b a x → IsWithin d e y → low ≡ b + d → high ≡ a + e → IsWithin low high (x +ℤ y)
    more b a d e low high x y first second is_low is_high = record {
      at_least = omega (arith, ints, first.at_least, second.at_least, is_low);
      at_most = omega (arith, ints, first.at_most, second.at_most, is_high);
    }

-- a sum and a difference of two numbers that 128 bits hold
pub sum_kept : (s n : ℤ) → IsWithin (2 ^ 96) (2 ^ 96) s → IsWithin (2 ^ 96) (2 ^ 96) n
    → to_z w128 (of_z w128 (to_z w128 (of_z w128 s) +ℤ to_z w128 (of_z w128 n))) ≡ s +ℤ n
sum_kept s n first second = omega (arith, ints, first.at_least, first.at_most, second.at_least, second.at_most)

pub difference_kept : (s n : ℤ) → IsWithin (2 ^ 96) (2 ^ 96) s → IsWithin (2 ^ 96) (2 ^ 96) n
    → to_z w128 (of_z w128 (to_z w128 (of_z w128 s) -ℤ to_z w128 (of_z w128 n))) ≡ s -ℤ n
difference_kept s n first second = omega (arith, ints, first.at_least, first.at_most, second.at_least, second.at_most)

-- a list whose first so many numbers are reckoned with others
abbrev pub IsSteppedTo : (ℤ → ℤ → ℤ) → List ℤ → List ℤ → ℕ → List ℤ → Type 0
IsSteppedTo o initial terms p sums =
    ((q : ℕ) → q < p → get_or sums q (pos 0) ≡ o (get_or initial q (pos 0)) (get_or terms q (pos 0))) × ((q : ℕ) → p ≤ q → get_or sums q (pos 0) ≡ get_or initial q (pos 0))

-- one number more
pub stepped_more : (o : ℤ → ℤ → ℤ) (initial terms sums : List ℤ) (p : ℕ) (z : ℤ) → p < length sums → IsSteppedTo o initial terms p sums
    → z ≡ o (get_or initial p (pos 0)) (get_or terms p (pos 0)) → IsSteppedTo o initial terms (p + 1) (set sums p z)
stepped_more o initial terms sums p z place so_far value = (
  λ q below. elim (cases_lt q p) [
    | inl before ↦ let other : q ≢ p = omega arith in get_or-set_other sums p q z (pos 0) other ∙ so_far.0 q before
    | inr above ↦
        let same : q ≡ p = omega arith in
        ap (λ (m : ℕ). get_or (set sums p z) m (pos 0)) same ∙ get_or-set_same sums p z (pos 0) place ∙ value
        ∙ ap (λ (m : ℕ). o (get_or initial m (pos 0)) (get_or terms m (pos 0))) (sym same)
  ],
  λ q above. let other : q ≢ p = omega arith in get_or-set_other sums p q z (pos 0) other ∙ so_far.1 q (omega arith),
)

-- so long is a list between two that follow each other
list_long : (c long : ℕ) → (c + 1) * long - c * long ≡ long
list_long c long = let product : (c + 1) * long ≡ c * long + long = omega arith in omega (arith, product)

-- so long is each
pub length-list : {X : Type 0} (xs : List X) (c count long : ℕ) → c < count → count * long ≤ length xs
    → length (take ((c + 1) * long - c * long) (drop (c * long) xs)) ≡ long
length-list xs c count long before enough =
    let next : (c + 1) * long ≤ count * long = mul-le (c + 1) long count long (omega arith) (omega arith) in
    let product : (c + 1) * long ≡ c * long + long = omega arith in
    ap (λ (n : ℕ). length (take n (drop (c * long) xs))) (list_long c long)
    ∙ length-take-le long (drop (c * long) xs) (omega (arith, length-drop (c * long) xs, next, product, enough))

-- a number of one of the lists
pub number_in_list : (xs : List ℤ) (c long p : ℕ) → p < long
    → get_or (take ((c + 1) * long - c * long) (drop (c * long) xs)) p (pos 0) ≡ get_or xs (c * long + p) (pos 0)
number_in_list xs c long p below =
    ap (λ (n : ℕ). get_or (take n (drop (c * long) xs)) p (pos 0)) (list_long c long) ∙ get_or-take long (drop (c * long) xs) p (pos 0) below
    ∙ get_or-drop (c * long) xs p (pos 0)

pub value_in_list : {X : Type 0} (value : X → ℤ) (xs : List X) (c long p : ℕ) → p < long
    → get_or (map value (take ((c + 1) * long - c * long) (drop (c * long) xs))) p (pos 0) ≡ get_or (map value xs) (c * long + p) (pos 0)
value_in_list value xs c long p below =
    ap (λ (t : List ℤ). get_or t p (pos 0))
    (sym (take-map value ((c + 1) * long - c * long) (drop (c * long) xs)) ∙ ap (take ((c + 1) * long - c * long)) (sym (drop-map value (c * long) xs)))
    ∙ number_in_list (map value xs) c long p below

-- a place of a list before the last is a place of all
pub place_below : (c long p count all : ℕ) → p < long → c < count → count * long ≤ all → c * long + p < all
place_below c long p count all below before long_enough = omega (arith, mul-add-lt c long p count before below, long_enough)

-- a wider range
wider : (b d : ℕ) (z : ℤ) → IsWithin b b z → b ≤ d → IsWithin d d z
wider b d z within le = record {
  at_least = omega (arith, ints, within.at_least, le);
  at_most = omega (arith, ints, within.at_most, le);
}

-- each number of a list that has room
pub place_within : (xs : List ℤ) (c long p count : ℕ) → HasRoom count xs → p < long → c < count → count * long ≤ length xs
    → IsWithin (2 ^ 96) (2 ^ 96) (get_or xs (c * long + p) (pos 0))
place_within xs c long p count room below before long_enough =
    let once : room.bound ≤ count * room.bound = times (omega arith) in
    wider room.bound (2 ^ 96) (get_or xs (c * long + p) (pos 0)) (room.within (c * long + p) (place_below c long p count (length xs) below before long_enough))
    (omega (arith, once, room.most))
  where
    times : {b n : ℕ} → 1 ≤ n → b ≤ n * b
    times {b} {n} some = let product = mul-le 1 b n b some (omega arith) in omega (arith, product)

-- each sum of a part of them
pub sums_within : (xs sums : List ℤ) (first behind count : ℕ) → HasRoom count xs → first ≤ behind → behind ≤ count → count * length sums ≤ length xs
    → ArePlaceSums xs first behind sums → AreWithin (2 ^ 96) (2 ^ 96) sums
sums_within xs sums first behind count room order few long_enough are p below =
    let long = length sums in
    let value = λ (c : ℕ). get_or xs (c * long + p) (pos 0) in
    let sum = sum_within room.bound room.bound value first (behind - first) (λ m lt.
    room.within ((first + m) * long + p) (place_below (first + m) long p count (length xs) below (omega arith) long_enough)) in
    let most : (behind - first) * room.bound ≤ count * room.bound = mul-le (behind - first) room.bound count room.bound (omega arith) (omega arith) in
    rw (are p below) (wider ((behind - first) * room.bound) (2 ^ 96) (sum_of value first (behind - first)) sum (omega (arith, most, room.most)))

-- one list more is added
pub place_sums_more : (xs sums new : List ℤ) (first c : ℕ) → length new ≡ length sums → first ≤ c → ArePlaceSums xs first c sums
    → ((p : ℕ) → p < length sums → get_or new p (pos 0) ≡ get_or sums p (pos 0) +ℤ get_or xs (c * length sums + p) (pos 0)) → ArePlaceSums xs first (c + 1) new
place_sums_more xs sums new first c long from are each p below =
    let here : p < length sums = rw (← long) below in
    let value = λ (d : ℕ). get_or xs (d * length sums + p) (pos 0) in
    let at : c ≡ first + (c - first) = omega arith in
    let next : c - first + 1 ≡ c + 1 - first = omega arith in
    each p here ∙ ap (λ (t : ℤ). t +ℤ value c) (are p here) ∙ ap (λ (m : ℕ). sum_of value first (c - first) +ℤ value m) at
    ∙ sym (sum_more value first (c - first)) ∙ ap (sum_of value first) next ∙ ap (λ (n : ℕ). place_sum xs n first (c + 1 - first) p) (sym long)

-- the first list is taken
pub place_sums_less : (xs sums new : List ℤ) (c behind : ℕ) → length new ≡ length sums → c < behind → ArePlaceSums xs c behind sums
    → ((p : ℕ) → p < length sums → get_or new p (pos 0) ≡ get_or sums p (pos 0) -ℤ get_or xs (c * length sums + p) (pos 0)) → ArePlaceSums xs (c + 1) behind new
place_sums_less xs sums new c behind long before are each p below =
    let here : p < length sums = rw (← long) below in
    let value = λ (d : ℕ). get_or xs (d * length sums + p) (pos 0) in
    let left = behind - (c + 1) in
    let one : behind - c ≡ left + 1 = omega arith in
    let all : sum_of value c (behind - c) ≡ value c +ℤ sum_of value (c + 1) left = ap (sum_of value c) one ∙ sum_less value c left in
    let rest : get_or new p (pos 0) ≡ sum_of value (c + 1) left = taken (get_or new p (pos 0)) (get_or sums p (pos 0)) (value c) (sum_of value (c + 1) left) (each p here) (are p here ∙ all) in
    rest ∙ ap (λ (n : ℕ). place_sum xs n (c + 1) left p) (sym long)
  where
    taken : (new old first rest : ℤ) → new ≡ old -ℤ first → old ≡ first +ℤ rest → new ≡ rest
    taken new old first rest is was = omega (arith, ints, is, was)

-- a number of a list that has room
pub item_within : (xs : List ℤ) (count p : ℕ) → HasRoom count xs → 0 < count → p < length xs → IsWithin (2 ^ 96) (2 ^ 96) (get_or xs p (pos 0))
item_within xs count p room some below =
    let once : 1 * room.bound ≤ count * room.bound = mul-le 1 room.bound count room.bound some (omega arith) in
    wider room.bound (2 ^ 96) (get_or xs p (pos 0)) (room.within p below) (omega (arith, once, room.most))

-- the sum of some that follow each other
pub run_within : (xs : List ℤ) (count first n : ℕ) → HasRoom count xs → n ≤ count → first + n ≤ length xs
    → IsWithin (2 ^ 96) (2 ^ 96) (sum_of (λ p. get_or xs p (pos 0)) first n)
run_within xs count first n room few inside =
    let value = λ (p : ℕ). get_or xs p (pos 0) in
    let sum = sum_within room.bound room.bound value first n (λ m below. room.within (first + m) (omega (arith, inside))) in
    let most : n * room.bound ≤ count * room.bound = mul-le n room.bound count room.bound few (omega arith) in
    wider (n * room.bound) (2 ^ 96) (sum_of value first n) sum (omega (arith, most, room.most))

-- such a sum and one number more, or one less, fit 128 bits
pub sum_fits : (s n : ℤ) → IsWithin (2 ^ 96) (2 ^ 96) s → IsWithin (2 ^ 96) (2 ^ 96) n → FitsSigned w128 (s +ℤ to_z w128 (of_z w128 n))
sum_fits s n first second = search (arith, ints, first.at_least, first.at_most, second.at_least, second.at_most)

pub difference_fits : (s n : ℤ) → IsWithin (2 ^ 96) (2 ^ 96) s → IsWithin (2 ^ 96) (2 ^ 96) n → FitsSigned w128 (s -ℤ to_z w128 (of_z w128 n))
difference_fits s n first second = search (arith, ints, first.at_least, first.at_most, second.at_least, second.at_most)

-- the same with the numbers as they are kept
pub sum_is : (s n : ℤ) → IsWithin (2 ^ 96) (2 ^ 96) s → IsWithin (2 ^ 96) (2 ^ 96) n
    → to_z w128 (of_z w128 (s +ℤ to_z w128 (of_z w128 n))) ≡ s +ℤ n
sum_is s n first second = omega (arith, ints, first.at_least, first.at_most, second.at_least, second.at_most)

pub difference_is : (s n : ℤ) → IsWithin (2 ^ 96) (2 ^ 96) s → IsWithin (2 ^ 96) (2 ^ 96) n
    → to_z w128 (of_z w128 (s -ℤ to_z w128 (of_z w128 n))) ≡ s -ℤ n
difference_is s n first second = omega (arith, ints, first.at_least, first.at_most, second.at_least, second.at_most)

-- a sum up to an index, one number more
pub run_more : (f : ℕ → ℤ) (first p : ℕ) (s : ℤ) → first ≤ p → s ≡ sum_of f first (p - first) → s +ℤ f p ≡ sum_of f first (p + 1 - first)
run_more f first p s from is =
    let at : p ≡ first + (p - first) = omega arith in
    let next : p - first + 1 ≡ p + 1 - first = omega arith in
    ap (λ (t : ℤ). t +ℤ f p) is ∙ ap (λ (m : ℕ). sum_of f first (p - first) +ℤ f m) at ∙ sym (sum_more f first (p - first)) ∙ ap (sum_of f first) next

-- a sum from an index, one number less
pub run_less : (f : ℕ → ℤ) (p behind : ℕ) (s : ℤ) → p < behind → s ≡ sum_of f p (behind - p) → s -ℤ f p ≡ sum_of f (p + 1) (behind - (p + 1))
run_less f p behind s before is =
    let left = behind - (p + 1) in
    let one : behind - p ≡ left + 1 = omega arith in
    let all : s ≡ f p +ℤ sum_of f (p + 1) left = is ∙ ap (sum_of f p) one ∙ sum_less f p left in
    taken s (f p) (sum_of f (p + 1) left) all
  where
    taken : (s first rest : ℤ) → s ≡ first +ℤ rest → s -ℤ first ≡ rest
    taken s first rest was = omega (arith, ints, was)

-- a sum in a window that may move by one
pub record MovesByOne (row : List ℤ) (first behind : ℕ) (s : ℤ) : Type 0 where
  pub order : first ≤ behind
  pub within : behind < length row
  pub room : HasRoom (behind + 1) row
  pub is : s ≡ sum_of (λ p. get_or row p (pos 0)) first (behind - first)

longer : (row : List ℤ) (first behind : ℕ) (s : ℤ) → MovesByOne row first behind s
    → s +ℤ get_or row behind (pos 0) ≡ sum_of (λ p. get_or row p (pos 0)) first (behind + 1 - first)
longer row first behind s moves =
    run_more (λ p. get_or row p (pos 0)) first behind s moves.order moves.is

moving_within : (row : List ℤ) (first behind : ℕ) (s : ℤ) → MovesByOne row first behind s → IsWithin (2 ^ 96) (2 ^ 96) s
moving_within row first behind s moves =
    rw moves.is (run_within row (behind + 1) first (behind - first) moves.room (omega arith) (omega (arith, moves.order, moves.within)))

longer_within : (row : List ℤ) (first behind : ℕ) (s : ℤ) → MovesByOne row first behind s
    → IsWithin (2 ^ 96) (2 ^ 96) (s +ℤ get_or row behind (pos 0))
longer_within row first behind s moves =
    rw (longer row first behind s moves)
    (run_within row (behind + 1) first (behind + 1 - first) moves.room (omega arith) (omega (arith, moves.order, moves.within)))

last_within : (row : List ℤ) (first behind : ℕ) (s : ℤ) → MovesByOne row first behind s → IsWithin (2 ^ 96) (2 ^ 96) (get_or row behind (pos 0))
last_within row first behind s moves = item_within row (behind + 1) behind moves.room (omega arith) moves.within

first_within : (row : List ℤ) (first behind : ℕ) (s : ℤ) → MovesByOne row first behind s → IsWithin (2 ^ 96) (2 ^ 96) (get_or row first (pos 0))
first_within row first behind s moves =
    item_within row (behind + 1) first moves.room (omega arith) (omega (arith, moves.order, moves.within))

-- one number more fits
pub longer_fits : (row : List ℤ) (first behind : ℕ) (s : ℤ) → MovesByOne row first behind s
    → FitsSigned w128 (to_z w128 (of_z w128 s) +ℤ to_z w128 (of_z w128 (get_or row behind (pos 0))))
longer_fits row first behind s moves =
    let sum = moving_within row first behind s moves in
    let last = last_within row first behind s moves in
    search (arith, ints, sum.at_least, sum.at_most, last.at_least, last.at_most)

-- and then one less
pub moved_fits : (row : List ℤ) (first behind : ℕ) (s : ℤ) → MovesByOne row first behind s
    → FitsSigned w128 (to_z w128 (of_z w128 (to_z w128 (of_z w128 s) +ℤ to_z w128 (of_z w128 (get_or row behind (pos 0))))) -ℤ to_z w128 (of_z w128 (get_or row first (pos 0))))
moved_fits row first behind s moves =
    let kept = sum_kept s (get_or row behind (pos 0)) (moving_within row first behind s moves) (last_within row first behind s moves) in
    rw kept (difference_fits (s +ℤ get_or row behind (pos 0)) (get_or row first (pos 0)) (longer_within row first behind s moves) (first_within row first behind s moves))

-- a window that has moved by one
pub moved_is : (row : List ℤ) (first behind : ℕ) (s : ℤ) → MovesByOne row first behind s
    → to_z w128 (of_z w128 (to_z w128 (of_z w128 (to_z w128 (of_z w128 s) +ℤ to_z w128 (of_z w128 (get_or row behind (pos 0))))) -ℤ to_z w128 (of_z w128 (get_or row first (pos 0)))))
    ≡ sum_of (λ p. get_or row p (pos 0)) (first + 1) (behind + 1 - (first + 1))
moved_is row first behind s moves =
    let n = get_or row behind (pos 0) in
    let m = get_or row first (pos 0) in
    ap (λ (z : ℤ). to_z w128 (of_z w128 (z -ℤ to_z w128 (of_z w128 m)))) (sum_kept s n (moving_within row first behind s moves) (last_within row first behind s moves))
    ∙ difference_is (s +ℤ n) m (longer_within row first behind s moves) (first_within row first behind s moves)
    ∙ run_less (λ p. get_or row p (pos 0)) first (behind + 1) (s +ℤ n) (omega (arith, moves.order)) (longer row first behind s moves)
