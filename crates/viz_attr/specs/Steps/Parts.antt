-- The readers of a FIELD and of all parts, which proofs compare with the rules
-- (docs/FORMATS-OF-FILES.md, "Attribute parts").
use Rattle.std.specs.Prelude.{ℕ, zero, suc, ◌+◌, Bool, true, false, not, ◌||◌, List, length, codes}
use Rattle.std.specs.Prelude.{Option, Some, None, Result, Ok, Err, if◌then◌else◌}
use Rattle.viz_column.specs.Numbers.{Numbers}
use Rattle.viz_lex.specs.declared.fault.FileKind.TheVariants.{Keyword, NoArray}
use Rattle.viz_lex.specs.declared.fault.FileFault.{FileFault}
use Rattle.viz_lex.specs.Reading.{Reading, fault_at, ◌>>=◌}
use Rattle.viz_lex.specs.Words.{word_at}
use Rattle.viz_lex.specs.Steps.{guard, has, same_word, due_word, keyword_kind}
use Rattle.viz_attr.specs.declared.parts.Association.{Association}
use Rattle.viz_attr.specs.declared.parts.Association.TheVariants.{Points, Cells}
use Rattle.viz_attr.specs.Picks.{Given, Part}
use Rattle.viz_attr.specs.Grammar.{field_head, is_zero}
use Rattle.viz_attr.specs.Steps.Before.{Known, start, is_wanted}
use Rattle.viz_attr.specs.Steps.Counts.{type_at, count_from_at}
use Rattle.viz_attr.specs.Steps.Arrays.{array_at, association_at, scalars_at, vectors_at}
use Rattle.viz_attr.specs.Steps.Arrays.{texture_at, colors_at, table_at, behind_part}

-- behind the name of an array of a FIELD
unfoldable pub field_values_at : Given → Known → Association → List ℕ → Reading
    → Result (Part × Reading) FileFault
field_values_at g k which name r = do
  c ← count_from_at 1 r
  t ← count_from_at 0 c.1
  stored ← type_at (is_wanted g k (field_head which name t.0)) t.1
  array_at g k (field_head which name t.0) stored.0 t.0 c.0 stored.1

-- an array of a FIELD, which is the first or not
unfoldable pub field_array_at : Given → Known → Association → Bool → Reading
    → Result (Part × Reading) FileFault
field_array_at g k which first r = do
  name ← due_word r
  is ← guard (first || not (same_word name.0.1 (codes "METADATA"))) Keyword name.0.0
  field_values_at g k which name.0.1 name.1

-- so many arrays of a FIELD, the first of them or not
unfoldable pub field_arrays_at : Given → Known → Association → Bool → ℕ → Reading
    → Result (Known × Reading) FileFault
field_arrays_at g k which first zero r = Ok (k, r)
field_arrays_at g k which first (suc n) r = behind_part g k
    (field_array_at g k which first r) >>= λ x. field_arrays_at g x.0 which false n x.1

-- FIELD
unfoldable pub field_at : Given → Known → Association → Reading → Result (Known × Reading) FileFault
field_at g k which r = do
  name ← due_word r
  n ← count_from_at 0 name.1
  field_arrays_at g k which true n.0 n.1

-- what stands behind the keyword of an array
unfoldable pub arrays_at : Given → Known → Association → ℕ × List ℕ → Reading
    → Result (Known × Reading) FileFault
arrays_at g k which key r =
    if same_word key.1 (codes "SCALARS") then behind_part g k (scalars_at g k which r)
    else (if same_word key.1 (codes "VECTORS") || same_word key.1 (codes "NORMALS")
    then behind_part g k (vectors_at g k which 3 r)
    else (if same_word key.1 (codes "TENSORS") then behind_part g k (vectors_at g k which 9 r)
    else (if same_word key.1 (codes "TEXTURE_COORDINATES")
    then behind_part g k (texture_at g k which r)
    else (if same_word key.1 (codes "COLOR_SCALARS") then behind_part g k (colors_at g k which r)
    else (if same_word key.1 (codes "LOOKUP_TABLE") then behind_part g k (table_at g k which r)
    else (if same_word key.1 (codes "FIELD") then field_at g k which r
    else Err (fault_at (keyword_kind key.1) key.0)))))))

-- in an association alone
unfoldable pub arrays_in_at : Given → Known → Option Association → ℕ × List ℕ → Reading
    → Result (Known × Reading) FileFault
arrays_in_at g k None key r = Err (fault_at (keyword_kind key.1) key.0)
arrays_in_at g k (Some which) key r = arrays_at g k which key r

-- what stands behind a keyword
unfoldable pub behind_at : Given → Known → ℕ × List ℕ → Reading → Result (Known × Reading) FileFault
behind_at g k key r =
    if same_word key.1 (codes "POINT_DATA") then behind_part g k (association_at g Points r)
    else (if same_word key.1 (codes "CELL_DATA") then behind_part g k (association_at g Cells r)
    else arrays_in_at g k k.association key r)

-- a part
unfoldable pub part_at : Given → Known → Reading → Result (Known × Reading) FileFault
part_at g k r = do
  key ← due_word r
  behind_at g k key.0 key.1

-- all parts, in at most so many steps
unfoldable pub parts_at : Given → Known → ℕ → Reading → Result (Known × Reading) FileFault
parts_at g k zero r = Ok (k, r)
parts_at g k (suc n) r = if has (word_at r) then (part_at g k r >>= λ x. parts_at g x.0 n x.1)
    else Ok (k, r)

-- the numbers of the first array that fits the pick
unfoldable pub picked_at : Given → Known → Reading → Result (Option Numbers × Reading) FileFault
picked_at g k r = if is_zero g.pick || k.found then Ok (k.picked, r)
    else Err (fault_at NoArray (length r.bytes))

-- the attributes
unfoldable pub attributes_at : Given → Reading → Result (Option Numbers × Reading) FileFault
attributes_at g r = parts_at g start (length r.bytes + 1) r >>= λ all. picked_at g all.0 all.1
