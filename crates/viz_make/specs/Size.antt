-- The extents that volumes are made on (docs/FORMATS.md, "Words of a command").
use Rattle.std.specs.Prelude.{ℕ, ◌-◌, ◌*◌, Bool, ◌&&◌, nat_le, Option, None, Some, if◌then◌else◌}
use Rattle.viz_extent.specs.Extent.{Bounds}

-- how many points a volume has at most
abbrev pub most_points : ℕ
most_points = 262144

-- whether a volume may have so many points along x, y and z
abbrev pub is_size : ℕ → ℕ → ℕ → Bool
is_size x y z = nat_le 1 x && nat_le 1 y && nat_le 1 z && nat_le (x * y * z) most_points

-- the extent of so many points along x, y and z, from index 0 on
abbrev pub volume_extent : ℕ → ℕ → ℕ → Option Bounds
volume_extent x y z =
    if is_size x y z
    then Some (record { x0 = 0; x1 = x - 1; y0 = 0; y1 = y - 1; z0 = 0; z1 = z - 1 }) else None
