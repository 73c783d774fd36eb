-- Places in lowest terms, and scalars between two wholes.
use Rattle.std.proofs.Common.{◌≡◌, ℤ, List, [], ◌∷◌, pos, negsuc, refl, sym, ap, ◌∙◌, ◌+◌, ◌*◌, ◌<◌, ◌≤◌, arith}
use Rattle.std.specs.Prelude.{◌+ℤ◌, ◌-ℤ◌, ◌*ℤ◌, ◌<ℤ◌, ◌≤ℤ◌, neg_ℤ}
use Rattle.std.proofs.Math.IntN.{*ℤ_comm}
use Rattle.std.proofs.Math.Nat.{mul-le-mul_right}
use Rattle.std.proofs.lemmas.Int.{ints}
use borrow.Author.Differences.{up, down}
use Rattle.viz_fraction.specs.Divisors.{gcd}
use Rattle.viz_fraction.specs.Decimals.{IsFloor}
use Rattle.viz_fraction.specs.Points.{Point, numbers, divisor_of, reduced}
use Rattle.viz_fraction.specs.Places.{place_divisor, place_of, four_divided, IsSamePosition, EqualPositionsHaveOnePlace}
use Rattle.viz_fraction.proofs.IntegersLemmas.{cancel, mul_left_comm, mul-neg}
use Rattle.viz_fraction.proofs.DecimalsLemmas.{less_by_product}
use Rattle.viz_fraction.proofs.PointsLemmas.{reduced_same_place, reduced-same_place, reduced_positive}

-- the point at the same position with the scalar 0
abbrev pub bare : Point → Point
bare p = numbers p.x p.y p.z (pos 0) p.w

-- a fifth number 0 leaves the divisor of the four
pub divisor-bare : (p : Point) → divisor_of (bare p) ≡ place_divisor p
unfolding divisor_of place_divisor gcd
divisor-bare p = refl

-- x, y, z and w of a point
abbrev pub four : Point → List ℤ
four p = p.x ∷ p.y ∷ p.z ∷ p.w ∷ []

-- the place is the position of the point with the scalar 0
pub place-bare : (p : Point) → four (reduced (bare p)) ≡ place_of p
place-bare p = ap (λ d. four_divided d p) (divisor-bare p)

pub four_are : (x y z w : ℤ) (p : Point) → x ≡ p.x → y ≡ p.y → z ≡ p.z → w ≡ p.w → (x ∷ y ∷ z ∷ w ∷ []) ≡ four p
four_are x y z w p ex ey ez ew = λ i. ex i ∷ ey i ∷ ez i ∷ ew i ∷ []

-- ---- positions and places

abbrev first : List ℤ → ℤ
first [] = pos 0
first (x ∷ xs) = x

abbrev others : List ℤ → List ℤ
others [] = []
others (x ∷ xs) = xs

turned : (a b w : ℤ) → (a *ℤ b) *ℤ w ≡ b *ℤ (a *ℤ w)
turned a b w = *ℤ_comm (a *ℤ b) w ∙ mul_left_comm w a b ∙ ap (λ z. a *ℤ z) (*ℤ_comm w b) ∙ mul_left_comm a b w

-- two fractions that are equal to a third are equal
crossed : (px qx pw qw x w : ℤ) → pos 0 <ℤ w → x *ℤ pw ≡ px *ℤ w → x *ℤ qw ≡ qx *ℤ w → px *ℤ qw ≡ qx *ℤ pw
crossed px qx pw qw x (negsuc d) positive in_p in_q = absurd (omega (arith, ints))
crossed px qx pw qw x (pos d) positive in_p in_q =
    let some : 0 < d = omega (arith, ints) in
    let left = turned px qw (pos d) ∙ ap (λ z. qw *ℤ z) (sym in_p) ∙ mul_left_comm qw x pw in
    let right = turned qx pw (pos d) ∙ ap (λ z. pw *ℤ z) (sym in_q) ∙ mul_left_comm pw x qw in
    cancel (px *ℤ qw) (qx *ℤ pw) d some (left ∙ ap (λ z. x *ℤ z) (*ℤ_comm qw pw) ∙ sym right)

none : (z : ℤ) → pos 0 *ℤ z ≡ pos 0
none z = omega (arith, ints)

one_place : (p q : Point) → pos 0 <ℤ p.w → pos 0 <ℤ q.w → IsSamePosition p q → place_of p ≡ place_of q
one_place p q positive_p positive_q same =
    let both = reduced-same_place (bare p) (bare q) positive_p positive_q (record { x = same.x; y = same.y; z = same.z; s = none q.w ∙ sym (none p.w) }) in
    sym (place-bare p) ∙ ap four both ∙ place-bare q

one_position : (p q : Point) → pos 0 <ℤ p.w → pos 0 <ℤ q.w → place_of p ≡ place_of q → IsSamePosition p q
one_position p q positive_p positive_q same =
    let a = reduced (bare p) in
    let b = reduced (bare q) in
    let in_p = reduced_same_place (bare p) in
    let in_q = reduced_same_place (bare q) in
    let positive = reduced_positive (bare p) positive_p in
    let both : four a ≡ four b = place-bare p ∙ same ∙ sym (place-bare q) in
    let ex : a.x ≡ b.x = ap first both in
    let ey : a.y ≡ b.y = ap (λ l. first (others l)) both in
    let ez : a.z ≡ b.z = ap (λ l. first (others (others l))) both in
    let ew : a.w ≡ b.w = ap (λ l. first (others (others (others l)))) both in
    let moved : (m n k : ℤ) → m ≡ n → n *ℤ q.w ≡ k *ℤ b.w → m *ℤ q.w ≡ k *ℤ a.w =
    λ m n k e h. ap (λ z. z *ℤ q.w) e ∙ h ∙ ap (λ z. k *ℤ z) (sym ew) in
    record {
      x = crossed p.x q.x p.w q.w a.x a.w positive in_p.x (moved a.x b.x q.x ex in_q.x);
      y = crossed p.y q.y p.w q.w a.y a.w positive in_p.y (moved a.y b.y q.y ey in_q.y);
      z = crossed p.z q.z p.w q.w a.z a.w positive in_p.z (moved a.z b.z q.z ez in_q.z);
    }

pub positions_have_one_place : EqualPositionsHaveOnePlace
positions_have_one_place p q positive_p positive_q = (one_place p q positive_p positive_q, one_position p q positive_p positive_q)

-- ---- scalars between wholes

-- a whole is at most a fraction where it is at most the floor
pub floor_at_least : (n w q k : ℤ) → pos 0 <ℤ w → IsFloor n w q → (k ≤ℤ q → (k *ℤ w) ≤ℤ n) × ((k *ℤ w) ≤ℤ n → k ≤ℤ q)
floor_at_least n (negsuc m) q k positive floor = absurd (omega (arith, ints))
floor_at_least n (pos m) q k positive floor = (
  λ least.
      let parts : up k + down q ≤ up q + down k = omega (arith, ints, least) in
      let product : (up k + down q) * m ≤ (up q + down k) * m = mul-le-mul_right m parts in
      omega (arith, ints, product, floor.at_most),
  λ most.
      let less : k <ℤ (q +ℤ pos 1) = less_by_product k (q +ℤ pos 1) m (omega (arith, ints, most, floor.above)) in
      omega (arith, ints, less),
)

-- a product turns its sign with a factor
pub product-neg : (k w : ℤ) → (pos 0 -ℤ k) *ℤ w ≡ pos 0 -ℤ (k *ℤ w)
product-neg k w =
    let sign : pos 0 -ℤ k ≡ neg_ℤ k = omega (arith, ints) in
    let back : neg_ℤ (w *ℤ k) ≡ pos 0 -ℤ (w *ℤ k) = omega (arith, ints) in
    ap (λ z. z *ℤ w) sign ∙ *ℤ_comm (neg_ℤ k) w ∙ mul-neg w k ∙ back ∙ ap (λ z. pos 0 -ℤ z) (*ℤ_comm w k)

-- negatives are in the other order
pub neg_order : (k w n : ℤ) → (((pos 0 -ℤ k) *ℤ w) ≤ℤ (pos 0 -ℤ n) → n ≤ℤ (k *ℤ w)) × (n ≤ℤ (k *ℤ w) → ((pos 0 -ℤ k) *ℤ w) ≤ℤ (pos 0 -ℤ n))
neg_order k w n =
    let e = product-neg k w in
    (λ h. omega (arith, ints, e, h), λ h. omega (arith, ints, e, h))
