-- A volume that a number makes (ISO C, the example of rand, in 31 bits; docs/FORMATS.md, "Made
-- volumes").
use Rattle.std.specs.Prelude.{ℕ, zero, suc, ◌+◌, ◌*◌, ◌/◌, ◌%◌, ◌^◌, pos, List, [], ◌∷◌, map, sum}
use Rattle.viz_extent.specs.Extent.{Bounds, count_of}
use Rattle.viz_column.specs.declared.kind.Kind8.TheVariants.{U8}
use Rattle.viz_dataset.specs.Images.{ImageData, billion}

-- the number behind a number
abbrev pub next : ℕ → ℕ
next r = (r * 1103515245 + 12345) % 2 ^ 31

-- the value that a number gives: bits 16 to 23
abbrev pub value_in : ℕ → ℕ
value_in r = r / 65536 % 256

-- so many values behind a number, in order
abbrev pub values_behind : ℕ → ℕ → List ℕ
values_behind r zero = []
values_behind r (suc n) = value_in (next r) ∷ values_behind (next r) n

-- the volume of a number on an extent: a byte for each point, index 0 at 0 and steps of 1
abbrev pub volume : ℕ → Bounds → ImageData
volume number b =
    record {
      extent = b;
      origin = record { x = pos 0; y = pos 0; z = pos 0 };
      spacing = record { x = billion; y = billion; z = billion };
      values = record { kind = U8; items = map pos (values_behind number (count_of b)) };
    }

-- the sum of all its values
abbrev pub volume_sum : ℕ → Bounds → ℕ
volume_sum number b = sum (values_behind number (count_of b))
