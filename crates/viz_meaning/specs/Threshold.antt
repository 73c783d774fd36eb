-- The threshold of an image: a number between two bounds stays, and every other becomes 0
-- (docs/FORMATS-OF-FILTERS.md, "Filters").
use Rattle.std.specs.Prelude.{ℤ, pos, Bool, ◌&&◌, int_le, map, if◌then◌else◌}
use Rattle.viz_column.specs.Numbers.{Numbers}
use Rattle.viz_dataset.specs.Images.{ImageData}

-- the number lies between the bounds, which belong to the range
abbrev pub is_within : ℤ → ℤ → ℤ → Bool
is_within lo hi n = int_le lo n && int_le n hi

-- the number, or 0 where it lies outside the bounds
abbrev pub kept_value : ℤ → ℤ → ℤ → ℤ
kept_value lo hi n = if is_within lo hi n then n else pos 0

-- numbers of the same type, each kept or 0
abbrev pub kept_numbers : ℤ → ℤ → Numbers → Numbers
kept_numbers lo hi numbers = record {
  kind = numbers.kind;
  items = map
      (kept_value lo hi) numbers.items;
}

-- the same image with each number kept or 0
abbrev pub thresholded : ℤ → ℤ → ImageData → ImageData
thresholded lo hi i = record i { values = kept_numbers lo hi i.values }
