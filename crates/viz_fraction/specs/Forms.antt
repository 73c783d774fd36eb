-- Linear forms, whose zeros are the surface of a contour or a plane (Doi and Koide 1991).
use Rattle.std.specs.Prelude.{ℤ, pos, ◌+ℤ◌, ◌-ℤ◌, ◌*ℤ◌, ◌≤ℤ◌}
use Rattle.viz_fraction.specs.declared.forms.Form.{Form}
use Rattle.viz_fraction.specs.Points.{Point, IsNarrow}

-- a x + b y + c z + q s - r w
abbrev pub value_of : Form → Point → ℤ
value_of f p = f.a *ℤ p.x +ℤ f.b *ℤ p.y +ℤ f.c *ℤ p.z +ℤ f.q *ℤ p.s -ℤ f.r *ℤ p.w

-- none of the five terms and not their sum is wide
pub record IsNarrowValue (f : Form) (p : Point) : Type 0 where
  pub a : IsNarrow (f.a *ℤ p.x)
  pub b : IsNarrow (f.b *ℤ p.y)
  pub c : IsNarrow (f.c *ℤ p.z)
  pub q : IsNarrow (f.q *ℤ p.s)
  pub r : IsNarrow (f.r *ℤ p.w)
  pub sum : IsNarrow (value_of f p)

-- a point is inside where the form is at least 0
abbrev pub IsInside : Form → Point → Type 0
IsInside f p = pos 0 ≤ℤ value_of f p

-- the form of a contour at a level: how far the scalar lies above it
abbrev pub contour_form : ℤ → Form
contour_form level = record { a = pos 0; b = pos 0; c = pos 0; q = pos 1; r = level }

-- the form of a plane: how far a x + b y + c z lies above r
abbrev pub plane_form : ℤ → ℤ → ℤ → ℤ → Form
plane_form a b c r = record { a = a; b = b; c = c; q = pos 0; r = r }
