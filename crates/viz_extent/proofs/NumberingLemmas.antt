-- The numbers of places in rows of l places, planes of m rows and n planes.
use Rattle.std.proofs.Common.{◌≡◌, ℕ, ◌+◌, ◌-◌, ◌*◌, ◌/◌, ◌%◌, ◌<◌, arith}
use Rattle.std.proofs.lemmas.Nat.{mul-add-lt, div-mul-add, mod-mul-add, rows}
use Rattle.viz_extent.specs.Extent.{Bounds, size_x, size_y, size_z, count_of, Has}
use Rattle.viz_extent.specs.Numbering.{index_at}

-- counted by strides, a place has the number that it has counted by rows
strides-by_rows : (a b c l m : ℕ) → a + b * l + c * (l * m) ≡ (c * m + b) * l + a
strides-by_rows a b c l m = omega arith

-- a place's number is below the count
number_below : (a b c l m n : ℕ) → a < l → b < m → c < n → (c * m + b) * l + a < l * m * n
number_below a b c l m n in_row in_plane in_all =
    omega (arith, mul-add-lt (c * m + b) l a (m * n) (mul-add-lt c m b n in_all in_plane) in_row)

-- the quotients and remainders of a place's number make that place
parts-of_number : (a b c l m index : ℕ) → a < l → b < m → (c * m + b) * l + a ≡ index
    → (index % l ≡ a) × (index / l % m ≡ b) × (index / l / m ≡ c)
parts-of_number a b c l m index in_row in_plane is =
    let row : index / l ≡ c * m + b = rw (← is) (div-mul-add (c * m + b) l a in_row) in (
      rw (← is) (mod-mul-add (c * m + b) l a in_row),
      rw row (mod-mul-add c m b in_plane),
      rw row (div-mul-add c m b in_plane),
    )

-- a number is that of the place which its quotients and remainders make
pub number-of_parts : (index l m : ℕ)
    → (index / l / m * m + index / l % m) * l + index % l ≡ index
number-of_parts index l m = grind arith

-- a number below the count lies in one of the planes
pub plane_below : (index l m n : ℕ) → index < l * m * n → index / l / m < n
plane_below index l m n below = grind (arith, rows)

-- a point's number by rows
pub index_at-by_rows : (b : Bounds) (i j k : ℕ)
    → index_at b i j k ≡ ((k - b.z0) * size_y b + (j - b.y0)) * size_x b + (i - b.x0)
index_at-by_rows b i j k =
    strides-by_rows (i - b.x0) (j - b.y0) (k - b.z0) (size_x b) (size_y b)

-- a point's number is below the count
pub index_at_below : (b : Bounds) (i j k : ℕ) → Has b i j k → index_at b i j k < count_of b
index_at_below b i j k has =
    let below = number_below (i - b.x0) (j - b.y0) (k - b.z0) (size_x b) (size_y b) (size_z b) in
    rw index_at-by_rows (below (omega arith) (omega arith) (omega arith))

-- a point's place again from its number
pub parts-of_index : (b : Bounds) (i j k index : ℕ) → Has b i j k → index_at b i j k ≡ index
    → (index % size_x b ≡ i - b.x0) × (index / size_x b % size_y b ≡ j - b.y0) × (index / size_x b / size_y b ≡ k - b.z0)
parts-of_index b i j k index has is =
    let parts = parts-of_number (i - b.x0) (j - b.y0) (k - b.z0) (size_x b) (size_y b) index in
    parts (omega arith) (omega arith) (rw (← index_at-by_rows b i j k) is)

-- r planes and one more hold the places up to the last of plane r
pub planes-up_to_last : (p q r : ℕ)
    → (r + 1) * ((p + 1) * (q + 1)) ≡ p + q * (p + 1) + r * ((p + 1) * (q + 1)) + 1
planes-up_to_last p q r = omega arith
