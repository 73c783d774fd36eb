-- The values of an array: numbers where it is picked, and else words or bytes that are passed over
-- (docs/FORMATS-OF-FILES.md, "Attribute parts").
use Rattle.std.specs.Prelude.{ℕ, ℤ, pos, zero, get_or, suc, ◌-◌, ◌*◌, Bool, true, false, List, []}
use Rattle.std.specs.Prelude.{◌∷◌, drop, Option, Some, None}
use Rattle.viz_column.specs.declared.kind.Kind8.{Kind8}
use Rattle.viz_column.specs.declared.kind.Kind8.TheVariants.{U8}
use Rattle.viz_column.specs.Kinds.{fits}
use Rattle.viz_column.specs.Bytes.{numbers_in}
use Rattle.viz_column.specs.Numbers.{Numbers}
use Rattle.viz_lex.specs.declared.fault.FileKind.TheVariants.{ValueRange}
use Rattle.viz_lex.specs.Reading.{fault_at}
use Rattle.viz_lex.specs.Rules.{Rule, gives, demand, choose, ◌>>=◌}
use Rattle.viz_lex.specs.Repeats.{times}
use Rattle.viz_lex.specs.Items.{number, words, line_end, block}
use Rattle.viz_attr.specs.declared.types.Stored.{Stored}
use Rattle.viz_attr.specs.declared.types.Stored.TheVariants.{Whole, Float, Double}
use Rattle.viz_attr.specs.Types.{bytes_of}

-- a number in the range of its type
abbrev pub value : Kind8 → Rule ℤ
value kind = do
  n ← number
  demand (fits kind n.1) (fault_at ValueRange n.0) (gives n.1)

-- a tuple of so many numbers, of which the first is kept
abbrev pub tuple : Kind8 → ℕ → Rule ℤ
tuple kind components = do
  first ← value kind
  others ← times (components - 1) (value kind)
  gives first

-- the kind of whole numbers, where it is one
abbrev pub kind_of : Stored → Kind8
kind_of (Whole kind) = kind
kind_of Float = U8
kind_of Double = U8

-- so many tuples in ASCII
abbrev pub text_values : Bool → Stored → ℕ → ℕ → Rule (Option Numbers)
text_values true stored tuples components = do
  numbers ← times tuples (tuple (kind_of stored) components)
  gives (Some (record { kind = kind_of stored; items = numbers }))
text_values false stored tuples components = do
  passed ← words (tuples * components)
  gives None

-- the first number of each of so many tuples
abbrev pub firsts : ℕ → ℕ → List ℤ → List ℤ
firsts components zero numbers = []
firsts components (suc tuples) numbers = get_or numbers 0 (pos 0) ∷ firsts components tuples
    (drop components numbers)

-- what is kept of a block
abbrev pub block_numbers : Bool → Stored → ℕ → ℕ → List ℕ → Option Numbers
block_numbers true stored tuples components bytes = Some
    (record {
      kind = kind_of stored;
      items = firsts components tuples
          (numbers_in (kind_of stored) bytes);
    })
block_numbers false stored tuples components bytes = None

-- so many tuples in BINARY, behind the end of the line
abbrev pub block_values : Bool → Stored → ℕ → ℕ → Rule (Option Numbers)
block_values picked stored tuples components = do
  ended ← line_end
  bytes ← block (tuples * components * bytes_of stored)
  gives (block_numbers picked stored tuples components bytes)

-- so many tuples, each of so many components
abbrev pub values : Bool → Bool → Stored → ℕ → ℕ → Rule (Option Numbers)
values binary picked stored tuples components =
    choose binary (block_values picked stored tuples components)
    (text_values picked stored tuples components)
