-- Where a linear form has its zero between an inside and an outside end (Doi and Koide 1991).
use Rattle.std.specs.Prelude.{◌≡◌, ℕ, ◌/◌, ◌<◌, ℤ, pos, ◌<ℤ◌, ◌≤ℤ◌, unsigned_abs, int_le}
use Rattle.std.specs.Prelude.{if◌then◌else◌}
use Rattle.viz_fraction.specs.declared.forms.Form.{Form}
use Rattle.viz_fraction.specs.Divisors.{gcd}
use Rattle.viz_fraction.specs.Points.{Point, IsNarrowPoint, IsPoint, scaled, added, reduced}
use Rattle.viz_fraction.specs.Forms.{value_of, IsInside}

-- the weight of the outside end: the inside value, in lowest terms with the outside one
abbrev pub outside_weight : ℤ → ℤ → ℕ
outside_weight la lb = unsigned_abs la / gcd (unsigned_abs la) (unsigned_abs lb)

-- the weight of the inside end: the outside value, in lowest terms with the inside one
abbrev pub inside_weight : ℤ → ℤ → ℕ
inside_weight la lb = unsigned_abs lb / gcd (unsigned_abs la) (unsigned_abs lb)

-- the outside end, as it enters the crossing
abbrev pub outside_term : ℤ → ℤ → Point → Point
outside_term la lb b = scaled (outside_weight la lb) b

-- the inside end, as it enters the crossing
abbrev pub inside_term : ℤ → Point → ℤ → Point
inside_term la a lb = scaled (inside_weight la lb) a

-- both terms together
abbrev pub unreduced_crossing : ℤ → Point → ℤ → Point → Point
unreduced_crossing la a lb b = added (outside_term la lb b) (inside_term la a lb)

-- the crossing between the inside end a, of value la, and the outside end b, of value lb
abbrev pub crossing_of : ℤ → Point → ℤ → Point → Point
crossing_of la a lb b = reduced (unreduced_crossing la a lb b)

-- no term and no sum is wide
pub record IsNarrowCrossing (la : ℤ) (a : Point) (lb : ℤ) (b : Point) : Type 0 where
  pub outside : IsNarrowPoint (outside_term la lb b)
  pub inside : IsNarrowPoint (inside_term la a lb)
  pub sum : IsNarrowPoint (unreduced_crossing la a lb b)

-- the form's value is 0 at its crossing
abbrev pub CrossingIsZero : Type 0
CrossingIsZero =
    (f : Form) (a b : Point) → pos 0 <ℤ a.w → pos 0 <ℤ b.w → IsInside f a → value_of f b <ℤ pos 0
    → value_of f (crossing_of (value_of f a) a (value_of f b) b) ≡ pos 0

-- p lies on the segment from a to b, and isn't b: it is a weighted mean of both, whose weight at a
-- is positive
pub record IsBetween (a b p : Point) : Type 0 where
  pub weight_a : ℕ
  pub weight_b : ℕ
  pub scale : ℕ
  pub has_a : 0 < weight_a
  pub has_scale : 0 < scale
  pub mean : scaled scale p ≡ added (scaled weight_b b) (scaled weight_a a)

-- a crossing lies on the segment between its ends
abbrev pub CrossingIsBetween : Type 0
CrossingIsBetween =
    (la lb : ℤ) (a b : Point) → pos 0 ≤ℤ la → lb <ℤ pos 0 → pos 0 <ℤ a.w → pos 0 <ℤ b.w
    → IsBetween a b (crossing_of la a lb b)

-- where the inside value is 0, the crossing is the inside end
abbrev pub CrossingAtInsideEnd : Type 0
CrossingAtInsideEnd =
    (lb : ℤ) (a b : Point) → IsPoint a → lb <ℤ pos 0 → crossing_of (pos 0) a lb b ≡ a

-- the crossing on the edge between two points, whichever of them is inside
abbrev pub edge_crossing : Form → Point → Point → Point
edge_crossing f p q =
    if int_le (pos 0) (value_of f p) then crossing_of (value_of f p) p (value_of f q) q
    else crossing_of (value_of f q) q (value_of f p) p

-- an edge with one inside end has one crossing, in whichever order its ends are named
abbrev pub EdgeHasOneCrossing : Type 0
EdgeHasOneCrossing =
    (f : Form) (p q : Point) → IsInside f p → value_of f q <ℤ pos 0
    → edge_crossing f p q ≡ edge_crossing f q p
