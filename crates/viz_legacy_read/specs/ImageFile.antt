-- An image file (VTK User's Guide, "Simple legacy formats"; docs/FORMATS-OF-FILES.md, "Images").
use Rattle.std.specs.Prelude.{ℕ, pos, ◌-◌, ◌*◌, Option, Some, None, replicate, max}
use Rattle.viz_base.specs.declared.node.Pick.{Pick}
use Rattle.viz_column.specs.declared.kind.Kind8.TheVariants.{U8}
use Rattle.viz_column.specs.Numbers.{Numbers}
use Rattle.viz_extent.specs.Extent.{Bounds, count_of}
use Rattle.viz_dataset.specs.Images.{ImageData}
use Rattle.viz_attr.specs.Picks.{Given}
use Rattle.viz_attr.specs.Grammar.{attributes}
use Rattle.viz_lex.specs.Rules.{Rule, gives, ◌>>=◌}
use Rattle.viz_legacy_read.specs.Header.{Header}

-- the cells along an axis: one fewer than points, and one where there is one point
abbrev pub cells_along : ℕ → ℕ → ℕ
cells_along lower upper = max 1 (upper - lower)

-- the cells of an image
abbrev pub cells_of : Bounds → ℕ
cells_of b = cells_along b.x0 b.x1 * cells_along b.y0 b.y1 * cells_along b.z0 b.z1

-- what is asked of the attributes
abbrev pub asked : Header → Pick → Given
asked h pick =
    record { binary = h.binary; points = count_of h.whole; cells = cells_of h.whole; pick = pick }

-- the picked numbers, or zeros of a byte where none are asked for
abbrev pub numbers_or_zeros : ℕ → Option Numbers → Numbers
numbers_or_zeros points None = record { kind = U8; items = replicate points (pos 0) }
numbers_or_zeros points (Some numbers) = numbers

-- the image of a header and numbers
abbrev pub image_of : Header → Option Numbers → ImageData
image_of h column =
    record {
      extent = h.whole;
      origin = h.origin;
      spacing = h.spacing;
      values = numbers_or_zeros (count_of h.whole) column;
    }

-- the image behind its header: the attributes to the end
abbrev pub image_behind : Pick → Header → Rule ImageData
image_behind pick h = do
  column ← attributes (asked h pick)
  gives (image_of h column)
