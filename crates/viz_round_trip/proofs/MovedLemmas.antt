-- The extent of an image as it is read again, and where nothing moves.
use Rattle.std.proofs.Common.{◌≡◌, ℕ, ℤ, pos, ◌+◌, ◌-◌, ◌*◌, ◌^◌, ◌<◌, ◌≤◌, refl, sym, ap, ◌∙◌, arith}
use Rattle.std.specs.Prelude.{◌+ℤ◌, ◌*ℤ◌}
use Rattle.std.proofs.Math.IntN.{*ℤ-zero, +ℤ_idr}
use Rattle.std.proofs.lemmas.Nat.{mul-le}
use Rattle.viz_extent.specs.Extent.{Bounds, size_x, size_y, size_z, count_of, IsExtent}
use Rattle.viz_dataset.specs.Images.{ImageData, position, corner}
use Rattle.viz_round_trip.specs.RoundTrip.{from_zero, moved, BeginsAtZero}
use Rattle.viz_round_trip.proofs.SizeStanding.{AreSizes}

factors_few : (x y z limit : ℕ) → 1 ≤ x → 1 ≤ y → 1 ≤ z → x * y * z < limit → (x < limit) × (y < limit) × (z < limit)
factors_few x y z limit some_x some_y some_z few =
    let xy_x : x * 1 ≤ x * y = mul-le x 1 x y (omega arith) some_y in
    let xy_y : 1 * y ≤ x * y = mul-le 1 y x y some_x (omega arith) in
    let all_xy : (x * y) * 1 ≤ (x * y) * z = mul-le (x * y) 1 (x * y) z (omega arith) some_z in
    let all_z : 1 * z ≤ (x * y) * z = mul-le 1 z (x * y) z (omega arith) (omega arith) in
    (omega arith, omega arith, omega arith)

pub extent_sizes : (b : Bounds) → IsExtent b → AreSizes (size_x b) (size_y b) (size_z b)
extent_sizes b h =
    let some_x : 1 ≤ size_x b = omega arith in
    let some_y : 1 ≤ size_y b = omega arith in
    let some_z : 1 ≤ size_z b = omega arith in
    let few = factors_few (size_x b) (size_y b) (size_z b) (2 ^ 31) some_x some_y some_z h.count in
    record { some_x = some_x; some_y = some_y; some_z = some_z; few_x = few.0; few_y = few.1; few_z = few.2; few = h.count }

pub size_again : (lower upper : ℕ) → upper - lower + 1 - 1 - 0 + 1 ≡ upper - lower + 1
size_again lower upper = omega arith

-- there are as many points
pub count_again : (b : Bounds) → count_of (from_zero b) ≡ count_of b
count_again b = rw (size_again b.x0 b.x1, size_again b.y0 b.y1, size_again b.z0 b.z1) refl

-- ---- an extent that begins at 0

bounds_same : (a b : Bounds) → a.x0 ≡ b.x0 → a.x1 ≡ b.x1 → a.y0 ≡ b.y0 → a.y1 ≡ b.y1 → a.z0 ≡ b.z0 → a.z1 ≡ b.z1 → a ≡ b
bounds_same a b p q r s t u = λ j. record { x0 = p j; x1 = q j; y0 = r j; y1 = s j; z0 = t j; z1 = u j }

upper_same : (lower upper : ℕ) → lower ≡ 0 → upper - lower + 1 - 1 ≡ upper
upper_same lower upper e = omega arith

from_zero_same : (b : Bounds) → BeginsAtZero b → from_zero b ≡ b
from_zero_same b h = bounds_same (from_zero b) b (sym h.x) (upper_same b.x0 b.x1 h.x) (sym h.y) (upper_same b.y0 b.y1 h.y) (sym h.z) (upper_same b.z0 b.z1 h.z)

position_same : (origin spacing : ℤ) (index : ℕ) → index ≡ 0 → position origin spacing index ≡ origin
position_same origin spacing index e =
    ap (λ (k : ℕ). origin +ℤ spacing *ℤ pos k) e ∙ ap (λ (n : ℤ). origin +ℤ n) (*ℤ-zero spacing) ∙ +ℤ_idr origin

corner_same : (i : ImageData) → BeginsAtZero i.extent → corner i ≡ i.origin
corner_same i h = λ j. record { x = position_same i.origin.x i.spacing.x i.extent.x0 h.x j; y = position_same i.origin.y i.spacing.y i.extent.y0 h.y j; z = position_same i.origin.z i.spacing.z i.extent.z0 h.z j }

-- nothing moves
pub moved_same : (i : ImageData) → BeginsAtZero i.extent → moved i ≡ i
moved_same i h = λ j. record { extent = from_zero_same i.extent h j; origin = corner_same i h j; spacing = i.spacing; values = i.values }
