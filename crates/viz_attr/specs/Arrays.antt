-- The arrays of an attribute part by rules, one a keyword (VTK User's Guide, "Simple legacy
-- formats"; docs/FORMATS-OF-FILES.md, "Attribute parts").
use Rattle.std.specs.Prelude.{ℕ, Bool, true, false, not, ◌||◌, List, [], ◌∷◌, ◌++◌, codes}
use Rattle.viz_column.specs.declared.kind.Kind8.TheVariants.{U8}
use Rattle.viz_lex.specs.declared.fault.FileKind.TheVariants.{Keyword}
use Rattle.viz_lex.specs.Reading.{fault_at}
use Rattle.viz_lex.specs.Steps.{same_word}
use Rattle.viz_lex.specs.Rules.{Rule, gives, demand, ◌>>=◌}
use Rattle.viz_lex.specs.Repeats.{times_knowing}
use Rattle.viz_lex.specs.Items.{word, keyword, metadata}
use Rattle.viz_attr.specs.declared.parts.Association.{Association}
use Rattle.viz_attr.specs.declared.parts.Sort.TheVariants.{Scalars, Field, Other}
use Rattle.viz_attr.specs.declared.types.Stored.{Stored}
use Rattle.viz_attr.specs.declared.types.Stored.TheVariants.{Whole}
use Rattle.viz_attr.specs.Types.{type_word}
use Rattle.viz_attr.specs.Counts.{count_from, dimension, same_count, components}
use Rattle.viz_attr.specs.Picks.{Given, Head, Part, Begins, Holds, is_picked, count_of}
use Rattle.viz_attr.specs.Values.{values}

-- the values of an array, and METADATA, which may stand behind them
abbrev pub array : Given → List Part → Head → Stored → ℕ → ℕ → Rule Part
array g before head stored tuples components = do
  column ← values g.binary (is_picked g before head) stored tuples components
  passed ← metadata
  gives (Holds head column)

-- POINT_DATA n or CELL_DATA n
abbrev pub association : Given → Association → Rule Part
association g which = do
  same ← same_count (count_of g which)
  gives (Begins which)

-- the head of an array that has a tuple for each point or cell
abbrev pub head_in : Given → Association → List ℕ → Head
head_in g which name =
    record { association = which; sort = Other; name = name; tuples = count_of g which }

-- the head of an array of SCALARS
abbrev pub scalars_head : Given → Association → List ℕ → Head
scalars_head g which name =
    record { association = which; sort = Scalars; name = name; tuples = count_of g which }

-- the head of an array of a FIELD, which has a number of tuples of its own
abbrev pub field_head : Association → List ℕ → ℕ → Head
field_head which name tuples =
    record { association = which; sort = Field; name = name; tuples = tuples }

-- SCALARS name type [c], then LOOKUP_TABLE name
abbrev pub scalars : Given → List Part → Association → Rule Part
scalars g before which = do
  name ← word
  stored ← type_word (is_picked g before (scalars_head g which name.1))
  c ← components
  key ← keyword (codes "LOOKUP_TABLE")
  table ← word
  array g before (scalars_head g which name.1) stored (count_of g which) c

-- VECTORS, NORMALS or TENSORS name type
abbrev pub vectors : Given → List Part → Association → ℕ → Rule Part
vectors g before which c = do
  name ← word
  stored ← type_word false
  array g before (head_in g which name.1) stored (count_of g which) c

-- TEXTURE_COORDINATES name d type
abbrev pub texture : Given → List Part → Association → Rule Part
texture g before which = do
  name ← word
  d ← dimension
  stored ← type_word false
  array g before (head_in g which name.1) stored (count_of g which) d

-- COLOR_SCALARS name c, of a byte each
abbrev pub colors : Given → List Part → Association → Rule Part
colors g before which = do
  name ← word
  c ← count_from 1
  array g before (head_in g which name.1) (Whole U8) (count_of g which) c

-- the head of a lookup table, which has as many tuples as colours
abbrev pub table_head : Association → List ℕ → ℕ → Head
table_head which name size =
    record { association = which; sort = Other; name = name; tuples = size }

-- LOOKUP_TABLE name size, of four bytes each
abbrev pub table : Given → List Part → Association → Rule Part
table g before which = do
  name ← word
  size ← count_from 0
  array g before (table_head which name.1 size) (Whole U8) size 4

-- no array stands before
abbrev pub is_first : List Part → Bool
is_first [] = true
is_first (part ∷ parts) = false

-- c t type, behind the name of an array of a FIELD
abbrev pub field_values : Given → List Part → Association → List ℕ → Rule Part
field_values g before which name = do
  c ← count_from 1
  t ← count_from 0
  stored ← type_word (is_picked g before (field_head which name t))
  array g before (field_head which name t) stored t c

-- name c t type: an array of a FIELD, whose name isn't METADATA where an array stands before it
abbrev pub field_array : Given → List Part → Association → List Part → Rule Part
field_array g before which inner = do
  name ← word
  demand (is_first inner || not (same_word name.1 (codes "METADATA"))) (fault_at Keyword name.0)
      (field_values g (before ++ inner) which name.1)

-- FIELD name k, then k arrays
abbrev pub field : Given → List Part → Association → Rule (List Part)
field g before which = do
  name ← word
  k ← count_from 0
  times_knowing k (field_array g before which)
