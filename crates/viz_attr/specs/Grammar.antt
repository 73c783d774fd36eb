-- The attribute parts of a file by rules (VTK User's Guide, "Simple legacy formats";
-- docs/FORMATS-OF-FILES.md, "Attribute parts").
use Rattle.std.specs.Prelude.{◌≡◌, ℕ, Bool, true, false, ◌||◌, List, [], ◌∷◌, length, codes}
use Rattle.std.specs.Prelude.{Option, Some, None}
use Rattle.std.specs.List.{flat_map}
use Rattle.viz_base.specs.declared.node.Pick.{Pick}
use Rattle.viz_base.specs.declared.node.Pick.TheVariants.{First, Zero, Named}
use Rattle.viz_column.specs.Numbers.{Numbers}
use Rattle.viz_lex.specs.declared.fault.FileKind.TheVariants.{NoArray}
use Rattle.viz_lex.specs.Reading.{fault_at}
use Rattle.viz_lex.specs.Steps.{same_word, keyword_kind}
use Rattle.viz_lex.specs.Rules.{Rule, gives, refuses, choose, ◌>>=◌}
use Rattle.viz_lex.specs.Repeats.{to_the_end}
use Rattle.viz_lex.specs.Items.{word}
use Rattle.viz_attr.specs.declared.parts.Association.{Association}
use Rattle.viz_attr.specs.declared.parts.Association.TheVariants.{Points, Cells}
use Rattle.viz_attr.specs.Picks.{Given, Part, has_fit, picked_of, association_of}
pub use Rattle.viz_attr.specs.Arrays.{array, association, head_in, scalars_head, field_head}
pub use Rattle.viz_attr.specs.Arrays.{scalars, vectors, texture, colors, table_head, table}
pub use Rattle.viz_attr.specs.Arrays.{is_first, field_values, field_array, field}

-- a part alone
abbrev pub alone : Rule Part → Rule (List Part)
alone rule = do
  part ← rule
  gives (part ∷ [])

-- what stands behind the keyword of an array
abbrev pub arrays : Given → List Part → Association → ℕ × List ℕ → Rule (List Part)
arrays g before which key =
    choose (same_word key.1 (codes "SCALARS")) (alone (scalars g before which))
    (choose (same_word key.1 (codes "VECTORS") || same_word key.1 (codes "NORMALS"))
    (alone (vectors g before which 3))
    (choose (same_word key.1 (codes "TENSORS")) (alone (vectors g before which 9))
    (choose (same_word key.1 (codes "TEXTURE_COORDINATES")) (alone (texture g before which))
    (choose (same_word key.1 (codes "COLOR_SCALARS")) (alone (colors g before which))
    (choose (same_word key.1 (codes "LOOKUP_TABLE")) (alone (table g before which))
    (choose (same_word key.1 (codes "FIELD")) (field g before which)
    (refuses (fault_at (keyword_kind key.1) key.0))))))))

-- an array stands in an association alone
abbrev pub arrays_in : Given → List Part → Option Association → ℕ × List ℕ → Rule (List Part)
arrays_in g before None key = refuses (fault_at (keyword_kind key.1) key.0)
arrays_in g before (Some which) key = arrays g before which key

-- what stands behind a keyword
abbrev pub behind : Given → List Part → ℕ × List ℕ → Rule (List Part)
behind g before key =
    choose (same_word key.1 (codes "POINT_DATA")) (alone (association g Points))
    (choose (same_word key.1 (codes "CELL_DATA")) (alone (association g Cells))
    (arrays_in g before (association_of None before) key))

-- a keyword, and what stands behind it
abbrev pub part : Given → List Part → Rule (List Part)
part g before = do
  key ← word
  behind g before key

-- the parts of lists, one list after the other
abbrev pub joined : List (List Part) → List Part
joined lists = flat_map (λ parts. parts) lists

-- all parts
abbrev pub parts : Given → Rule (List (List Part))
parts g = to_the_end (λ before. part g (joined before))

-- nothing is asked for
abbrev pub is_zero : Pick → Bool
is_zero First = false
is_zero Zero = true
is_zero (Named name) = false

-- the pick names none of the arrays
abbrev pub no_array : Rule (Option Numbers)
no_array = record { is = λ old new x. ⊥; isnt = λ old f. f ≡ fault_at NoArray (length old.bytes) }

-- the attributes of a file: the numbers of the first array that fits the pick, and none where
-- nothing is asked for
abbrev pub attributes : Given → Rule (Option Numbers)
attributes g = do
  all ← parts g
  choose (is_zero g.pick || has_fit g (joined all)) (gives (picked_of g (joined all))) no_array
