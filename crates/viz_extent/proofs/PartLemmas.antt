-- Parts of an extent: their points, and that they are extents.
use Rattle.std.proofs.Common.{◌≡◌, ℕ, ◌+◌, ◌-◌, ◌*◌, ◌/◌, ◌%◌, ◌<◌, ◌≤◌, ◌↔◌, List, ap, inl, inr, arith}
use Rattle.std.specs.Prelude.{slice_index, min, max}
use Rattle.std.proofs.lemmas.Bool.{cases_lt}
use Rattle.std.proofs.lemmas.Nat.{mul-le, le-div, div-add-mod', mod_below}
use Rattle.viz_extent.specs.Extent.{Bounds, numbers_of, size_of, size_x, size_y, size_z, plane_size, count_of, IsAxis, IsExtent, IsOnAxis, Has}
use Rattle.viz_extent.specs.Parts.{IsPart, HasAll, Rate, IsRate, first_kept, sampled, HasSampled, spread, AreNear, HasGrown, grown}

-- each number is the bound at its place
pub record AreRead (numbers : List ℕ) (b : Bounds) : Type 0 where
  pub x0 : slice_index numbers 0 ≡ b.x0
  pub x1 : slice_index numbers 1 ≡ b.x1
  pub y0 : slice_index numbers 2 ≡ b.y0
  pub y1 : slice_index numbers 3 ≡ b.y1
  pub z0 : slice_index numbers 4 ≡ b.z0
  pub z1 : slice_index numbers 5 ≡ b.z1

-- the six numbers of an extent are its bounds
pub numbers-read : (numbers : List ℕ) (b : Bounds) → numbers ≡ numbers_of b → AreRead numbers b
numbers-read numbers b is =
    record {
      x0 = ap (λ (ns : List ℕ). slice_index ns 0) is;
      x1 = ap (λ (ns : List ℕ). slice_index ns 1) is;
      y0 = ap (λ (ns : List ℕ). slice_index ns 2) is;
      y1 = ap (λ (ns : List ℕ). slice_index ns 3) is;
      z0 = ap (λ (ns : List ℕ). slice_index ns 4) is;
      z1 = ap (λ (ns : List ℕ). slice_index ns 5) is;
    }

-- the lowest corner is a point
lowest_has : (b : Bounds) → IsExtent b → Has b b.x0 b.y0 b.z0
lowest_has b valid =
    record {
      x = record { at_least = omega arith; at_most = valid.x.order };
      y = record { at_least = omega arith; at_most = valid.y.order };
      z = record { at_least = omega arith; at_most = valid.z.order };
    }

-- so is the highest one
highest_has : (b : Bounds) → IsExtent b → Has b b.x1 b.y1 b.z1
highest_has b valid =
    record {
      x = record { at_least = valid.x.order; at_most = omega arith };
      y = record { at_least = valid.y.order; at_most = omega arith };
      z = record { at_least = valid.z.order; at_most = omega arith };
    }

-- the points of a part are points of the whole
pub points_of_part : (whole part : Bounds) → IsPart whole part → HasAll whole part
points_of_part whole part within i j k has =
    record {
      x = record { at_least = omega arith; at_most = omega arith };
      y = record { at_least = omega arith; at_most = omega arith };
      z = record { at_least = omega arith; at_most = omega arith };
    }

-- an extent whose points are points of the whole is a part of it
pub part_of_points : (whole part : Bounds) → IsExtent part → HasAll whole part → IsPart whole part
part_of_points whole part valid all =
    let low : Has whole part.x0 part.y0 part.z0 = all part.x0 part.y0 part.z0 (lowest_has part valid) in
    let high : Has whole part.x1 part.y1 part.z1 = all part.x1 part.y1 part.z1 (highest_has part valid) in
    record {
      x = record { first = low.x.at_least; last = high.x.at_most };
      y = record { first = low.y.at_least; last = high.y.at_most };
      z = record { first = low.z.at_least; last = high.z.at_most };
    }

-- three axes no longer than those of an extent make an extent
pub smaller_extent : (whole part : Bounds) → IsExtent whole → IsAxis part.x0 part.x1 → IsAxis part.y0 part.y1 → IsAxis part.z0 part.z1
    → size_x part ≤ size_x whole → size_y part ≤ size_y whole → size_z part ≤ size_z whole → IsExtent part
smaller_extent whole part valid x y z in_x in_y in_z =
    let count : count_of part ≤ count_of whole =
    mul-le (plane_size part) (size_z part) (plane_size whole) (size_z whole) (mul-le (size_x part) (size_y part) (size_x whole) (size_y whole) in_x in_y) in_z in
    let most = valid.count in
    record { x = x; y = y; z = z; count = omega (arith, count, most) }

-- a part of an extent whose lower bounds are at most its upper ones is an extent
pub part_extent : (whole part : Bounds) → IsExtent whole → IsPart whole part → part.x0 ≤ part.x1 → part.y0 ≤ part.y1 → part.z0 ≤ part.z1 → IsExtent part
part_extent whole part valid within x y z =
    smaller_extent whole part valid
    (record { order = x; limit = omega (arith, valid.x.limit, within.x.last) })
    (record { order = y; limit = omega (arith, valid.y.limit, within.y.last) })
    (record { order = z; limit = omega (arith, valid.z.limit, within.z.last) })
    (omega (arith, within.x.first, within.x.last))
    (omega (arith, within.y.first, within.y.last))
    (omega (arith, within.z.first, within.z.last))

-- a product by a rate, and one step more
times_more : (m n r : ℕ) → m < n → m * r + r ≤ n * r
times_more m n r lt = let more = mul-le (m + 1) r n r (omega arith) (omega arith) in omega (arith, more)

-- an index from the first kept one on has a multiple from the lower bound on
pub multiple_from : (lower r j : ℕ) → 1 ≤ r → first_kept lower r ≤ j → lower ≤ j * r
multiple_from lower r j some first =
    let n = lower + (r - 1) in
    let parts : n / r * r + n % r ≡ n = div-add-mod' n r in
    let rest : n % r < r = mod_below n r (omega arith) in
    let more : n / r * r ≤ j * r = mul-le (n / r) r j r first (omega arith) in
    omega (arith, parts, rest, more)

-- an index with a multiple from the lower bound on is one from the first kept one on
pub first_from : (lower r j : ℕ) → 1 ≤ r → lower ≤ j * r → first_kept lower r ≤ j
first_from lower r j some from =
    let n = lower + (r - 1) in
    elim (cases_lt j (n / r)) [
      | inl past ↦
          let parts : n / r * r + n % r ≡ n = div-add-mod' n r in
          let more : j * r + r ≤ n / r * r = times_more j (n / r) r past in
          omega (arith, parts, more)
      | inr within ↦ within
    ]

-- an index up to the last kept one has a multiple up to the upper bound
pub multiple_to : (upper r j : ℕ) → 1 ≤ r → j ≤ upper / r → j * r ≤ upper
multiple_to upper r j some last =
    let parts : upper / r * r + upper % r ≡ upper = div-add-mod' upper r in
    let more : j * r ≤ upper / r * r = mul-le j r (upper / r) r last (omega arith) in
    omega (arith, parts, more)

-- a kept axis is no longer than the axis
pub kept_size : (lower upper r : ℕ) → 1 ≤ r → first_kept lower r ≤ upper / r → size_of (first_kept lower r) (upper / r) ≤ size_of lower upper
kept_size lower upper r some order = spaced (first_kept lower r) (upper / r) lower upper r some order
    (multiple_from lower r (first_kept lower r) some (omega arith))
    (multiple_to upper r (upper / r) some (omega arith))
  where
    spaced : (m n lower upper r : ℕ) → 1 ≤ r → m ≤ n → lower ≤ m * r → n * r ≤ upper → size_of m n ≤ size_of lower upper
    spaced m n lower upper r some order first last =
        let step : n - m ≤ (n - m) * r = let more = mul-le (n - m) 1 (n - m) r (omega arith) some in omega (arith, more) in
        let product : (n - m) * r + m * r ≡ n * r = let sum : n - m + m ≡ n = omega arith in split (n - m) m n r sum in
        omega (arith, step, product)
      where
        split : (a b c r : ℕ) → a + b ≡ c → a * r + b * r ≡ c * r
        split a b c r sum = rw (← sum) (omega arith)

-- a kept axis is an axis
pub kept_axis : (lower upper r : ℕ) → IsAxis lower upper → 1 ≤ r → first_kept lower r ≤ upper / r → IsAxis (first_kept lower r) (upper / r)
kept_axis lower upper r valid some order =
    let last : upper / r * r ≤ upper = multiple_to upper r (upper / r) some (omega arith) in
    let least : upper / r * 1 ≤ upper / r * r = mul-le (upper / r) 1 (upper / r) r (omega arith) some in
    let limit = valid.limit in
    record { order = order; limit = omega (arith, last, least, limit) }

-- the kept points make an extent where each axis keeps one
pub sampled_extent : (rate : Rate) (b : Bounds) → IsRate rate → IsExtent b → first_kept b.x0 rate.x ≤ b.x1 / rate.x
    → first_kept b.y0 rate.y ≤ b.y1 / rate.y → first_kept b.z0 rate.z ≤ b.z1 / rate.z → IsExtent (sampled rate b)
sampled_extent rate b some valid x y z =
    smaller_extent b (sampled rate b) valid
    (kept_axis b.x0 b.x1 rate.x valid.x some.x.least x)
    (kept_axis b.y0 b.y1 rate.y valid.y some.y.least y)
    (kept_axis b.z0 b.z1 rate.z valid.z some.z.least z)
    (kept_size b.x0 b.x1 rate.x some.x.least x)
    (kept_size b.y0 b.y1 rate.y some.y.least y)
    (kept_size b.z0 b.z1 rate.z some.z.least z)

-- an index is kept just where its multiple lies on the axis
kept_on_axis : (lower upper r j : ℕ) → 1 ≤ r → IsOnAxis (first_kept lower r) (upper / r) j ↔ IsOnAxis lower upper (j * r)
kept_on_axis lower upper r j some = (
  λ on. record { at_least = multiple_from lower r j some on.at_least; at_most = multiple_to upper r j some on.at_most },
  λ on. record { at_least = first_from lower r j some on.at_least; at_most = le-div j upper r some on.at_most },
)

-- the points that are kept
pub sampled_points : (rate : Rate) (b : Bounds) → IsRate rate → HasSampled rate b (sampled rate b)
sampled_points rate b some i j k = (
  λ has. record {
    x = (kept_on_axis b.x0 b.x1 rate.x i some.x.least).0 has.x;
    y = (kept_on_axis b.y0 b.y1 rate.y j some.y.least).0 has.y;
    z = (kept_on_axis b.z0 b.z1 rate.z k some.z.least).0 has.z;
  },
  λ has. record {
    x = (kept_on_axis b.x0 b.x1 rate.x i some.x.least).1 has.x;
    y = (kept_on_axis b.y0 b.y1 rate.y j some.y.least).1 has.y;
    z = (kept_on_axis b.z0 b.z1 rate.z k some.z.least).1 has.z;
  },
)

-- an index on an axis that keeps one shows that the kept axis has its order
pub kept_order : (lower upper r j : ℕ) → 1 ≤ r → IsOnAxis lower upper (j * r) → first_kept lower r ≤ upper / r
kept_order lower upper r j some on =
    let kept = (kept_on_axis lower upper r j some).1 on in
    omega (arith, kept.at_least, kept.at_most)

-- products by a rate are ordered as their factors
factor_order : (m n r : ℕ) → 1 ≤ r → m * r ≤ n * r → m ≤ n
factor_order m n r some order =
    elim (cases_lt n m) [
      | inl past ↦ let more = times_more n m r past in omega (arith, more)
      | inr within ↦ within
    ]

-- an index lies on an axis just where its multiple lies on the multiple of the axis
spread_on_axis : (lower upper r j : ℕ) → 1 ≤ r → IsOnAxis lower upper j ↔ IsOnAxis (lower * r) (upper * r) (j * r)
spread_on_axis lower upper r j some = (
  λ on. record {
    at_least = mul-le lower r j r on.at_least (omega arith);
    at_most = mul-le j r upper r on.at_most (omega arith);
  },
  λ on. record { at_least = factor_order lower j r some on.at_least; at_most = factor_order j upper r some on.at_most },
)

-- the points whose multiples an extent that was spread has
pub spread_points : (rate : Rate) (b : Bounds) → IsRate rate → HasSampled rate (spread rate b) b
spread_points rate b some i j k = (
  λ has. record {
    x = (spread_on_axis b.x0 b.x1 rate.x i some.x.least).0 has.x;
    y = (spread_on_axis b.y0 b.y1 rate.y j some.y.least).0 has.y;
    z = (spread_on_axis b.z0 b.z1 rate.z k some.z.least).0 has.z;
  },
  λ has. record {
    x = (spread_on_axis b.x0 b.x1 rate.x i some.x.least).1 has.x;
    y = (spread_on_axis b.y0 b.y1 rate.y j some.y.least).1 has.y;
    z = (spread_on_axis b.z0 b.z1 rate.z k some.z.least).1 has.z;
  },
)

-- an index of the grown axis is near to one of the axis
near_on_axis : (lower upper by i : ℕ) → lower ≤ upper → lower - by ≤ i → i ≤ upper + by → (n : ℕ) × IsOnAxis lower upper n × AreNear by i n
near_on_axis lower upper by i order first last =
    (max lower (min i upper), record { at_least = omega arith; at_most = omega arith }, record { above = omega arith; below = omega arith })

-- the points of the whole that are near to a point of a part
pub grown_points : (by : ℕ) (whole b : Bounds) → IsExtent b → HasGrown by whole b (grown by whole b)
grown_points by whole b valid i j k = (
  λ has.
      let x = near_on_axis b.x0 b.x1 by i valid.x.order (omega arith) (omega arith) in
      let y = near_on_axis b.y0 b.y1 by j valid.y.order (omega arith) (omega arith) in
      let z = near_on_axis b.z0 b.z1 by k valid.z.order (omega arith) (omega arith) in (
        record {
          x = record { at_least = omega arith; at_most = omega arith };
          y = record { at_least = omega arith; at_most = omega arith };
          z = record { at_least = omega arith; at_most = omega arith };
        },
        record {
          near_i = x.0;
          near_j = y.0;
          near_k = z.0;
          has = record { x = x.1; y = y.1; z = z.1 };
          x = x.2;
          y = y.2;
          z = z.2;
        },
      ),
  λ both. record {
    x = record { at_least = omega arith; at_most = omega arith };
    y = record { at_least = omega arith; at_most = omega arith };
    z = record { at_least = omega arith; at_most = omega arith };
  },
)
