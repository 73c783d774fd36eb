-- The points of a grid or polydata file (VTK User's Guide, "Simple legacy formats";
-- docs/FORMATS-OF-FILES.md, "Grids and polydata").
use Rattle.std.specs.Prelude.{ℕ, ℤ, ◌*◌, Bool, true, codes}
use Rattle.viz_column.specs.declared.kind.Kind8.{Kind8}
use Rattle.viz_column.specs.Kinds.{size_of, fits}
use Rattle.viz_column.specs.Bytes.{numbers_of}
use Rattle.viz_column.specs.Numbers.{Numbers}
use Rattle.viz_lex.specs.declared.fault.FileKind.TheVariants.{ValueRange}
use Rattle.viz_lex.specs.Reading.{fault_at}
use Rattle.viz_lex.specs.Rules.{Rule, gives, demand, choose, ◌>>=◌}
use Rattle.viz_lex.specs.Repeats.{times}
use Rattle.viz_lex.specs.Items.{number, keyword, line_end, block, metadata}
use Rattle.viz_attr.specs.Types.{type_word}
use Rattle.viz_attr.specs.Counts.{count_from}
use Rattle.viz_attr.specs.Values.{kind_of}
use Rattle.viz_mesh_read.specs.declared.coordinates.FilePoints.{FilePoints}

-- a number in the range of its type
abbrev pub value : Kind8 → Rule ℤ
value kind = do
  n ← number
  demand (fits kind n.1) (fault_at ValueRange n.0) (gives n.1)

-- so many numbers in ASCII
abbrev pub text_column : Kind8 → ℕ → Rule Numbers
text_column kind n = do
  items ← times n (value kind)
  gives (record { kind = kind; items = items })

-- so many numbers in BINARY, behind the end of the line
abbrev pub block_column : Kind8 → ℕ → Rule Numbers
block_column kind n = do
  ended ← line_end
  bytes ← block (n * size_of kind)
  gives (numbers_of kind bytes)

-- so many numbers, of which all are read
abbrev pub column : Bool → Kind8 → ℕ → Rule Numbers
column binary kind n = choose binary (block_column kind n) (text_column kind n)

-- POINTS n type, three whole numbers for each point, and METADATA, which may stand behind them
abbrev pub points : Bool → Rule FilePoints
points binary = do
  key ← keyword (codes "POINTS")
  n ← count_from 0
  stored ← type_word true
  numbers ← column binary (kind_of stored) (3 * n)
  passed ← metadata
  gives (record { count = n; coordinates = numbers })
