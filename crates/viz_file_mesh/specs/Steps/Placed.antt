-- The points of a file by their coordinates, as the loop over them makes them
-- (docs/FORMATS-OF-FILES.md, "Grids and polydata").
use Rattle.std.specs.Prelude.{ℕ, ℤ, pos, ◌+◌, ◌*◌, ◌*ℤ◌, List, map, slice_index_or, Option}
use Rattle.std.specs.List.{range_with_len}
use Rattle.viz_column.specs.Numbers.{Numbers}
use Rattle.viz_fraction.specs.Points.{Point, numbers, reduced}
use Rattle.viz_file_mesh.specs.FileMesh.{scalar_at}

-- the point of an index, where so many of a coordinate's units make 1
abbrev pub placed : ℕ → List ℤ → Option Numbers → ℕ → Point
placed scale coordinates picked i =
    reduced (numbers (slice_index_or coordinates (3 * i) (pos 0))
    (slice_index_or coordinates (3 * i + 1) (pos 0))
    (slice_index_or coordinates (3 * i + 2) (pos 0)) (scalar_at picked i *ℤ pos scale)
    (pos scale))

-- so many points
abbrev pub all_placed : ℕ → ℕ → List ℤ → Option Numbers → List Point
all_placed scale count coordinates picked = map (placed scale coordinates picked)
    (range_with_len 0 count)
