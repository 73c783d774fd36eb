-- A form's value by its five terms, number by number.
use Rattle.std.specs.Prelude.{ℤ, ◌+ℤ◌, ◌-ℤ◌, ◌*ℤ◌}
use Rattle.viz_fraction.specs.declared.forms.Form.{Form}
use Rattle.viz_fraction.specs.declared.numbers.Numbers.{Numbers}
use Rattle.viz_fraction.specs.Points.{IsNarrow, IsNarrowPoint}
use Rattle.viz_fraction.specs.Numbers.{point_of}

-- the coefficients of a form, in the order of the numbers that they stand with
abbrev pub coefficients_of : Form → Numbers
coefficients_of f =
    record {
      x = f.a;
      y = f.b;
      z = f.c;
      s = f.q;
      w = f.r;
    }

-- the five products
abbrev pub terms_of : Numbers → Numbers → Numbers
terms_of k p =
    record {
      x = k.x *ℤ p.x;
      y = k.y *ℤ p.y;
      z = k.z *ℤ p.z;
      s = k.s *ℤ p.s;
      w = k.w *ℤ p.w;
    }

-- the sum of four numbers without the fifth
abbrev pub total_of : Numbers → ℤ
total_of t = t.x +ℤ t.y +ℤ t.z +ℤ t.s -ℤ t.w

-- no product is wide, nor their sum
pub record IsNarrowSumAt (k p : Numbers) : Type 0 where
  pub terms : IsNarrowPoint (point_of (terms_of k p))
  pub sum : IsNarrow (total_of (terms_of k p))
