-- What a divisor of a crossing's numbers divides (docs/FORMATS-OF-FILTERS.md, "Exact points").
use Rattle.std.specs.Prelude.{◌≡◌, ℕ, pos, ◌-ℤ◌, unsigned_abs}
use Prim.Native.Nat.{◌∣◌}
use Rattle.viz_fraction.specs.Points.{Point}

-- d divides how far b is from a along each axis
pub record DividesSteps (d : ℕ) (a b : Point) : Type 0 where
  pub x : d ∣ unsigned_abs (b.x -ℤ a.x)
  pub y : d ∣ unsigned_abs (b.y -ℤ a.y)
  pub z : d ∣ unsigned_abs (b.z -ℤ a.z)

-- n is a multiple of each number that divides the steps between two points of weight 1
abbrev pub IsStepDivisor : Point → Point → ℕ → Type 0
IsStepDivisor a b n =
    (d : ℕ) → (a.w ≡ pos 1 → b.w ≡ pos 1 → DividesSteps d a b) → d ∣ n
