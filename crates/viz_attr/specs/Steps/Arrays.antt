-- The readers of an array behind its keyword, which proofs compare with the rules: each keeps what
-- is known of the parts before it (docs/FORMATS-OF-FILES.md, "Attribute parts").
use Rattle.std.specs.Prelude.{ℕ, false, codes, Result, Ok, Err}
use Rattle.viz_column.specs.declared.kind.Kind8.TheVariants.{U8}
use Rattle.viz_lex.specs.declared.fault.FileFault.{FileFault}
use Rattle.viz_lex.specs.Reading.{Reading, ◌>>=◌}
use Rattle.viz_lex.specs.Steps.{due_word, keyword_at}
use Rattle.viz_lex.specs.Readers.{any_metadata_at}
use Rattle.viz_attr.specs.declared.parts.Association.{Association}
use Rattle.viz_attr.specs.declared.types.Stored.{Stored}
use Rattle.viz_attr.specs.declared.types.Stored.TheVariants.{Whole}
use Rattle.viz_attr.specs.Picks.{Given, Head, Part, Begins, Holds, count_of}
use Rattle.viz_attr.specs.Grammar.{head_in, scalars_head, table_head}
use Rattle.viz_attr.specs.Steps.Before.{Known, with_part, is_wanted}
use Rattle.viz_attr.specs.Steps.Counts.{type_at, count_from_at, dimension_at, same_count_at}
use Rattle.viz_attr.specs.Steps.Counts.{components_at}
use Rattle.viz_attr.specs.Steps.Values.{values_at}

-- an array behind its head
unfoldable pub array_at : Given → Known → Head → Stored → ℕ → ℕ → Reading
    → Result (Part × Reading) FileFault
array_at g k head stored tuples components r = do
  column ← values_at g.binary (is_wanted g k head) stored tuples components r
  passed ← any_metadata_at column.1
  Ok (Holds head column.0, passed.1)

-- POINT_DATA or CELL_DATA
unfoldable pub association_at : Given → Association → Reading → Result (Part × Reading) FileFault
association_at g which r = do
  same ← same_count_at (count_of g which) r
  Ok (Begins which, same.1)

-- SCALARS
unfoldable pub scalars_at : Given → Known → Association → Reading
    → Result (Part × Reading) FileFault
scalars_at g k which r = do
  name ← due_word r
  stored ← type_at (is_wanted g k (scalars_head g which name.0.1)) name.1
  c ← components_at stored.1
  key ← keyword_at (codes "LOOKUP_TABLE") c.1
  table ← due_word key.1
  array_at g k (scalars_head g which name.0.1) stored.0 (count_of g which) c.0 table.1

-- VECTORS, NORMALS, TENSORS
unfoldable pub vectors_at : Given → Known → Association → ℕ → Reading
    → Result (Part × Reading) FileFault
vectors_at g k which c r = do
  name ← due_word r
  stored ← type_at false name.1
  array_at g k (head_in g which name.0.1) stored.0 (count_of g which) c stored.1

-- TEXTURE_COORDINATES
unfoldable pub texture_at : Given → Known → Association → Reading
    → Result (Part × Reading) FileFault
texture_at g k which r = do
  name ← due_word r
  d ← dimension_at name.1
  stored ← type_at false d.1
  array_at g k (head_in g which name.0.1) stored.0 (count_of g which) d.0 stored.1

-- COLOR_SCALARS
unfoldable pub colors_at : Given → Known → Association → Reading → Result (Part × Reading) FileFault
colors_at g k which r = do
  name ← due_word r
  c ← count_from_at 1 name.1
  array_at g k (head_in g which name.0.1) (Whole U8) (count_of g which) c.0 c.1

-- LOOKUP_TABLE
unfoldable pub table_at : Given → Known → Association → Reading → Result (Part × Reading) FileFault
table_at g k which r = do
  name ← due_word r
  size ← count_from_at 0 name.1
  array_at g k (table_head which name.0.1 size.0) (Whole U8) size.0 4 size.1

-- what is known behind a part
abbrev pub behind_part : Given → Known → Result (Part × Reading) FileFault
    → Result (Known × Reading) FileFault
behind_part g k (Ok x) = Ok (with_part g k x.0, x.1)
behind_part g k (Err f) = Err f
