-- How the numbers of a filter are reached, step by step: words of private contracts alone.
use Rattle.std.specs.Prelude.{◌≡◌, ℕ, ◌*◌, ℤ, pos, ◌≤ℤ◌, true, false, List, slice_index_or}
use Rattle.viz_column.specs.declared.kind.Kind8.{Kind8}
use Rattle.viz_column.specs.Kinds.{fits}
use Rattle.viz_column.specs.Numbers.{Numbers}
use Rattle.viz_extent.specs.Extent.{Bounds}
use Rattle.viz_extent.specs.Numbering.{index_at}
use Rattle.viz_extent.specs.Parts.{Rate}
use Rattle.viz_meaning.specs.Threshold.{is_within}
use Rattle.viz_image_ops.specs.Joined.{values_on}

-- a number of a kind, at most each number of it
pub record IsLeast (kind : Kind8) (least : ℤ) : Type 0 where
  pub fit : fits kind least ≡ true
  pub below : (n : ℤ) → fits kind n ≡ true → least ≤ℤ n

-- a number of a kind, at least each number of it
pub record IsMost (kind : Kind8) (most : ℤ) : Type 0 where
  pub fit : fits kind most ≡ true
  pub above : (n : ℤ) → fits kind n ≡ true → n ≤ℤ most

-- of the numbers of a kind just those between two bounds lie between two others
abbrev pub SelectSame : Kind8 → ℤ → ℤ → ℤ → ℤ → Type 0
SelectSame kind lo hi own_lo own_hi =
    (n : ℤ) → fits kind n ≡ true → is_within own_lo own_hi n ≡ is_within lo hi n

-- no number of a kind lies between the bounds
abbrev pub SelectNone : Kind8 → ℤ → ℤ → Type 0
SelectNone kind lo hi = (n : ℤ) → fits kind n ≡ true → is_within lo hi n ≡ false

-- the number at the multiples of three indices by a rate
abbrev pub sampled_at : List ℤ → Bounds → Rate → ℕ → ℕ → ℕ → ℤ
sampled_at xs whole rate i j k =
    slice_index_or xs (index_at whole (i * rate.x) (j * rate.y) (k * rate.z)) (pos 0)

-- of the same kind, the numbers at the multiples of all points of an extent
abbrev pub AreSampled : Numbers → Bounds → Rate → Bounds → Numbers → Type 0
AreSampled old whole rate out new =
    new ≡ record { kind = old.kind; items = values_on (sampled_at old.items whole rate) out }
