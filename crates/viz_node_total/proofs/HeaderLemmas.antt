-- The header of an image has an extent, and an origin and a spacing within the limits.
use Rattle.std.proofs.Common.{
  ◌≡◌,
  ℕ,
  zero,
  suc,
  ◌+◌,
  ◌-◌,
  ◌*◌,
  ◌^◌,
  ◌<◌,
  ◌≤◌,
  ℤ,
  pos,
  negsuc,
  Bool,
  true,
  false,
  List,
  [],
  ◌∷◌,
  ◌++◌,
  Option,
  None,
  Some,
  refl,
  sym,
  subst,
  arith,
}
use Rattle.std.specs.List.{AllByRecursion}
use Rattle.std.specs.Prelude.{fold, if◌then◌else◌, nat_le, unsigned_abs, unwrap_or}
use Rattle.std.proofs.lemmas.Bool.{leb-true, ltb-true}
use Rattle.std.proofs.lemmas.Int.{ints}
use Rattle.viz_attr.specs.Counts.{is_at_least}
use Rattle.viz_dataset.specs.Images.{IsOrigin, IsPosition, IsSpacing, IsStep}
use Rattle.viz_extent.specs.Extent.{IsExtent}
use Rattle.viz_legacy_read.specs.Header.{
  Geometry,
  Header,
  Heading,
  Line,
  Origin,
  Sizes,
  Spacing_of,
  behind,
  geometry_of,
  header_line,
  image_header,
  is_above,
  is_image,
  no_line,
  origin,
  size,
  sizes,
  spacing,
  step,
  whole_of,
  with_line,
  all_of,
}
use Rattle.viz_legacy_read.specs.Header.Heading.{OfImage as ImageHead, OfMesh as MeshHead}
use Rattle.viz_legacy_read.specs.Reading.{ReadsHeader}
use Rattle.viz_lex.specs.Decimals.{decimal_of, in_limit, limited}
use Rattle.viz_lex.specs.Items.{decimal, decimal_from}
use Rattle.viz_lex.specs.Reading.{Reading, fault_at}
use Rattle.viz_lex.specs.Repeats.{AreKnown}
use Rattle.viz_lex.specs.Rules.{Rule, choose, follow, gives, refuses}
use Rattle.viz_lex.specs.Steps.{keyword_kind}
use Rattle.viz_lex.specs.declared.fault.FileFault.{FileFault}

-- whatever the rule reads has the property
abbrev Always : {V : Type 0} → (V → Type 0) → Rule V → Type 0
Always {V = V} P rule = (old new : Reading) (x : V) → rule.is old new x → P x

either_always : {V : Type 0} (P : V → Type 0) (b : Bool) (r s : Rule V) → Always P r → Always P s
    → Always P (choose b r s)
either_always P true r s h g = h
either_always P false r s h g = g

made_always : {A V : Type 0} (P : A → Type 0) (Q : V → Type 0) (a : Rule A) (f : A → V)
    → ((v : A) → P v → Q (f v)) → Always P a
    → Always Q (follow a (λ v. gives (f v)))
made_always P Q a f h g old new x i = subst Q (sym i.3.1) (h i.0 (g old i.1 i.0 i.2))

never_always : {V : Type 0} (P : V → Type 0) (fault : FileFault) → Always P (refuses fault)
never_always P fault old new x i = absurd i

-- ---- sizes

some_number : (z : ℤ) → is_at_least 1 z ≡ true → 1 ≤ unsigned_abs z
some_number (pos m) e = leb-true 1 m e
some_number (negsuc m) e = let bad : ⊥ = cc in absurd bad

size_some : (old new : Reading) (x : ℕ × ℕ) → size.is old new x → 1 ≤ x.1
size_some old new x i =
    subst (λ (y : ℕ × ℕ). 1 ≤ y.1) (sym i.3.1.1) (some_number i.0.1 i.3.0)

times_more : (x y : ℕ) → 1 ≤ y → x ≤ x * y
times_more x zero h = absurd (omega arith)
times_more x (suc y) h = omega arith

size_again : (x : ℕ) → 1 ≤ x → x - 1 - 0 + 1 ≡ x
size_again x h = omega arith

-- so many points along each axis, at most 2^31 - 1 in all, are an extent
extent_of : (x y z : ℕ) → 1 ≤ x → 1 ≤ y → 1 ≤ z → x * y * z < 2 ^ 31 → IsExtent (whole_of x y z)
extent_of x y z p q r small =
    let xy = times_more x y q in
    let all = times_more (x * y) z r in
    let yx : y ≤ x * y = (let t = times_more y x p in omega (arith, t)) in
    let zxy : z ≤ x * y * z =
    (let t = times_more z (x * y) (omega (arith, p, xy)) in omega (arith, t)) in
    record {
      x = record { order = omega arith; limit = omega (arith, xy, all, small) };
      y = record { order = omega arith; limit = omega (arith, yx, all, small) };
      z = record { order = omega arith; limit = omega (arith, zxy, small) };
      count = rw (size_again x p, size_again y q, size_again z r) small;
    }

sizes_are : Always IsExtent sizes
sizes_are old new b i =
    let x = i.0.1 in
    let y = i.3.0.1 in
    let z = i.3.3.0.1 in
    let small = ltb-true (x * y * z) (2 ^ 31) i.3.3.3.0 in
    subst IsExtent (sym i.3.3.3.1.1)
    (extent_of x y z (size_some old i.1 i.0 i.2) (size_some i.1 i.3.1 i.3.0 i.3.2)
    (size_some i.3.1 i.3.3.1 i.3.3.0 i.3.3.2) small)

-- ---- decimals

from_within : (o : Option ℤ) (place : ℕ) (old new : Reading) (x : ℕ × ℤ)
    → (decimal_from (limited o) place).is old new x → IsPosition x.1
from_within None place old new x i = absurd i
from_within (Some z) place old new x i = by (in_limit z) refl i
  where
    by : (b : Bool) → in_limit z ≡ b
        → (decimal_from (if b then Some z else None) place).is old new x → IsPosition x.1
    by true e j =
        subst (λ (y : ℕ × ℤ). IsPosition y.1) (sym j.1) (leb-true (unsigned_abs z) (10 ^ 27) e)
    by false e j = absurd j

decimal_within : (old new : Reading) (x : ℕ × ℤ) → decimal.is old new x → IsPosition x.1
decimal_within old new x i = from_within (decimal_of i.0.1) i.0.0 i.1 new x i.3

origin_is : Always IsOrigin origin
origin_is old new v i =
    subst IsOrigin (sym i.3.3.3.1)
    (record {
      x = decimal_within old i.1 i.0 i.2;
      y = decimal_within i.1 i.3.1 i.3.0 i.3.2;
      z = decimal_within i.3.1 i.3.3.1 i.3.3.0 i.3.3.2;
    })

step_of : (n : ℤ) → nat_le (unsigned_abs n) (10 ^ 18) ≡ true → is_above n ≡ true → IsStep n
step_of (pos m) p q =
    let most = leb-true m (10 ^ 18) p in
    let some = ltb-true 0 m q in
    record { above = omega (arith, ints, some); most = omega (arith, ints, most) }
step_of (negsuc m) p q = let bad : ⊥ = cc in absurd bad

step_is : Always IsStep step
step_is old new n i = subst IsStep (sym i.3.1.1.1) (step_of i.0.1 i.3.0 i.3.1.0)

spacing_is : Always IsSpacing spacing
spacing_is old new v i =
    subst IsSpacing (sym i.3.3.3.1)
    (record {
      x = step_is old i.1 i.0 i.2;
      y = step_is i.1 i.3.1 i.3.0 i.3.2;
      z = step_is i.3.1 i.3.3.1 i.3.3.0 i.3.3.2;
    })

-- ---- header lines

abbrev IsWithin : Line → Type 0
IsWithin (Sizes whole) = IsExtent whole
IsWithin (Origin v) = IsOrigin v
IsWithin (Spacing_of v) = IsSpacing v

line_within : (g : Geometry) (key : ℕ × List ℕ) → Always IsWithin (behind g key)
line_within g key =
    either_always IsWithin _ _ _
    (made_always IsExtent IsWithin sizes (λ v. Sizes v) (λ v h. h) sizes_are)
    (either_always IsWithin _ _ _
    (made_always IsOrigin IsWithin origin (λ v. Origin v) (λ v h. h) origin_is)
    (either_always IsWithin _ _ _
    (made_always IsSpacing IsWithin spacing (λ v. Spacing_of v) (λ v h. h) spacing_is)
    (never_always IsWithin (fault_at (keyword_kind key.1) key.0))))

lines_within : (rule : List Line → Rule Line)
    → ((before : List Line) → Always IsWithin (rule before))
    → (before : List Line) (old new : Reading) (xs : List Line) (n : ℕ)
    → AreKnown rule before old new xs n → AllByRecursion IsWithin xs
lines_within rule each before old new [] n h = tt
lines_within rule each before old new (x ∷ xs) zero h = absurd h
lines_within rule each before old new (x ∷ xs) (suc n) h =
    (each before old h.0 x h.1, lines_within rule each (before ++ x ∷ []) h.0 new xs n h.2)

-- ---- what lines say

abbrev IsOne : {V : Type 0} → (V → Type 0) → Option V → Type 0
IsOne P None = Unit {0}
IsOne P (Some v) = P v

record Within (g : Geometry) : Type 0 where
  whole : IsOne IsExtent g.whole
  origin : IsOne IsOrigin g.origin
  spacing : IsOne IsSpacing g.spacing

with_within : (g : Geometry) (x : Line) → Within g → IsWithin x → Within (with_line g x)
with_within g (Sizes whole) h i = record { whole = i; origin = h.origin; spacing = h.spacing }
with_within g (Origin v) h i = record { whole = h.whole; origin = i; spacing = h.spacing }
with_within g (Spacing_of v) h i = record { whole = h.whole; origin = h.origin; spacing = i }

all_within : (g : Geometry) (xs : List Line) → Within g → AllByRecursion IsWithin xs
    → Within (fold with_line g xs)
all_within g [] h i = h
all_within g (x ∷ xs) h i = all_within (with_line g x) xs (with_within g x h i.0) i.1

or_default : {V : Type 0} (P : V → Type 0) (o : Option V) (v : V) → P v → IsOne P o
    → P (unwrap_or o v)
or_default P None v h i = h
or_default P (Some w) v h i = i

-- the extent, the origin and the spacing of an image
pub record HasLimits (h : Header) : Type 0 where
  pub whole : IsExtent h.whole
  pub origin : IsOrigin h.origin
  pub spacing : IsSpacing h.spacing

no_origin : IsOrigin (all_of (pos 0))
no_origin = record { x = omega arith; y = omega arith; z = omega arith }

one_step : IsStep (pos (10 ^ 9))
one_step = record { above = omega (arith, ints); most = omega (arith, ints) }

header_within : (binary : Bool) → Always HasLimits (image_header binary)
header_within binary old new h i =
    let lines =
    lines_within (header_line binary)
    (λ before r s x l. line_within (geometry_of before) l.3.0 l.3.1 s x l.3.3)
    [] old i.1 i.0 3 i.2 in
    let none : Within no_line = record { whole = tt; origin = tt; spacing = tt } in
    let g = geometry_of i.0 in
    let within = all_within no_line i.0 none lines in
    subst HasLimits (sym i.3.1)
    (record {
      whole = or_default IsExtent g.whole (whole_of 1 1 1)
          (extent_of 1 1 1 (omega arith) (omega arith) (omega arith) (omega arith)) within.whole;
      origin = or_default IsOrigin g.origin (all_of (pos 0)) no_origin within.origin;
      spacing = or_default IsSpacing g.spacing (all_of (pos (10 ^ 9)))
          (record { x = one_step; y = one_step; z = one_step }) within.spacing;
    })

abbrev IsLimited : Heading → Type 0
IsLimited (ImageHead h) = HasLimits h
IsLimited (MeshHead p) = Unit {0}

-- what the header of an image says lies within the limits
pub heading_within : (bytes : List ℕ) (h : Header) → ReadsHeader bytes (ImageHead h)
    → HasLimits h
heading_within bytes h r =
    either_always IsLimited (is_image r.1.0) _ _
    (made_always HasLimits IsLimited (image_header r.1.0.binary) (λ z. ImageHead z) (λ z l. l)
    (header_within r.1.0.binary))
    (λ old new x i. subst IsLimited (sym i.1) tt) r.1.1 r.0 (ImageHead h) r.1.3
