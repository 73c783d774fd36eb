-- What is reckoned of two images, point by point: words of private contracts alone.
use Rattle.std.specs.Prelude.{◌≡◌, true, ℕ, ℤ, pos, List, length, slice_index_or}
use Rattle.viz_column.specs.declared.kind.Kind8.{Kind8}
use Rattle.viz_column.specs.declared.kind.Kind8.TheVariants.{I64}
use Rattle.viz_column.specs.Kinds.{fits}
use Rattle.viz_column.specs.Numbers.{Numbers}
use Rattle.viz_extent.specs.Extent.{count_of}
use Rattle.viz_extent.specs.Numbering.{index_at}
use Rattle.viz_extent.specs.Parts.{IsPart}
use Rattle.viz_meaning.specs.declared.op.Op.{Op}
use Rattle.viz_meaning.specs.ImageFilters.{reckoned, clamped}
use Rattle.viz_image_ops.specs.Joined.{values_on}
use Rattle.viz_image_ops.specs.declared.arithmetic.Grids.{Grids}

-- there is a number for each point of two extents, and both have the part
pub record AreOn (grids : Grids) (xs ys : List ℤ) : Type 0 where
  pub first : length xs ≡ count_of grids.first
  pub second : length ys ≡ count_of grids.second
  pub in_first : IsPart grids.first grids.out
  pub in_second : IsPart grids.second grids.out

-- 64 bits with a sign hold each number of a kind
abbrev pub IsSigned : Kind8 → Type 0
IsSigned kind = (n : ℤ) → fits kind n ≡ true → fits I64 n ≡ true

-- what is reckoned of the two numbers of a point
abbrev pub reckoned_at : Op → Grids → List ℤ → List ℤ → ℕ → ℕ → ℕ → ℤ
reckoned_at op grids xs ys i j k =
    clamped (reckoned op (slice_index_or xs (index_at grids.first i j k) (pos 0))
    (slice_index_or ys (index_at grids.second i j k) (pos 0)))

-- of 64 bits with a sign, what is reckoned for each point of the part
abbrev pub AreReckoned : Op → Grids → List ℤ → List ℤ → Numbers → Type 0
AreReckoned op grids xs ys new =
    new ≡ record { kind = I64; items = values_on (reckoned_at op grids xs ys) grids.out }
