-- The readers of attribute parts decide their rules.
use Rattle.std.proofs.Common.{◌≡◌, ℕ, ℤ, zero, suc, ◌+◌, ◌-◌, ◌*◌, ◌^◌, Bool, true, false, not, ◌&&◌, ◌||◌, List, [], ◌∷◌, ◌++◌, length, Option, Some, None, option_map, Result, Ok, Err, refl, sym, ap, subst, ◌∙◌, add-one}
use Rattle.std.specs.Prelude.{codes, ok_or, unwrap_or, unsigned_abs, if◌then◌else◌}
use Rattle.viz_column.specs.declared.kind.Kind8.{Kind8}
use Rattle.viz_column.specs.declared.kind.Kind8.TheVariants.{U8}
use Rattle.viz_column.specs.Kinds.{fits}
use Rattle.viz_column.specs.Numbers.{Numbers}
use Rattle.viz_lex.specs.declared.fault.FileFault.{FileFault}
use Rattle.viz_lex.specs.declared.fault.FileKind.TheVariants.{Keyword, ValueRange, Count, FloatArray, NoArray, TooMany, Truncated, Unsupported}
use Rattle.viz_lex.specs.declared.span.Span.{Span}
use Rattle.viz_lex.specs.Reading.{Reading, fault_at, ◌>>=◌}
use Rattle.viz_lex.specs.Words.{word_at, text_of, line_end_at}
use Rattle.viz_lex.specs.Numbers.{number_at, whole_at}
use Rattle.viz_lex.specs.Passing.{words_at}
use Rattle.viz_lex.specs.Steps.{guard, has, same_word, start_at, due_word, due_number, keyword_kind, keyword_at, is_beside}
use Rattle.viz_lex.specs.Rules.{Rule, gives, demand, refuses, choose, follow, Decides}
use Rattle.viz_lex.specs.Repeats.{times, Moves}
use Rattle.viz_lex.specs.Items.{word, words, number, keyword, line_end, block, metadata}
use Rattle.viz_lex.specs.Readers.{times_at, known_at, all_at, bytes_at, any_metadata_at}
use Rattle.viz_lex.proofs.RuleLemmas.{decides-gives, decides-refuses, decides-follow, decides-demand, decides-choose, decides-beside, decides-times}
use Rattle.viz_lex.proofs.KnownLemmas.{decides-times_knowing}
use Rattle.viz_lex.proofs.AllLemmas.{decides-to_the_end}
use Rattle.viz_lex.proofs.ItemLemmas.{decides-word, decides-number, decides-keyword, onward-follow}
use Rattle.viz_lex.proofs.PassRules.{decides-same, decides-line_end, decides-block, decides-words, decides-metadata}
use Rattle.viz_attr.specs.declared.parts.Association.{Association}
use Rattle.viz_attr.specs.declared.parts.Association.TheVariants.{Points, Cells}
use Rattle.viz_attr.specs.declared.types.Stored.{Stored}
use Rattle.viz_attr.specs.declared.types.Stored.TheVariants.{Whole}
use Rattle.viz_attr.specs.Types.{stored_of, is_left_out_type, is_real, bytes_of, named_by, type_word}
use Rattle.viz_attr.specs.Counts.{is_number, is_at_least, is_below, count_from, dimension, same_count, components}
use Rattle.viz_attr.specs.Picks.{Given, Head, Part, Begins, Holds, has_fit, is_picked, picked_of, association_of, count_of}
use Rattle.viz_attr.specs.Values.{value, tuple, kind_of, text_values, block_numbers, block_values, values}
use Rattle.viz_attr.specs.Grammar.{array, association, head_in, scalars_head, table_head, field_head, scalars, vectors, texture, colors, table, is_first, field_values, field_array, field, alone, arrays, arrays_in, behind, part, joined, parts, is_zero, no_array, attributes}
use Rattle.viz_attr.specs.Steps.{Known, with_part, with_parts, is_wanted, type_at, count_from_at, dimension_at, same_count_at, components_at, value_at, others_at, tuple_at, tuples_at, column_at, text_values_at, line_bytes_at, block_values_at, values_at, array_at, association_at, scalars_at, vectors_at, texture_at, colors_at, table_at, field_values_at, field_array_at}
use Rattle.viz_attr.proofs.ListReaders.{known, known-parts, alone_at, field_list_at, arrays_list_at, arrays_in_list_at, behind_list_at, part_list_at}

-- ---- types and counts

pub decides-type_word : (read : Bool) → Decides (type_word read) (type_at read)
unfolding type_at
decides-type_word read =
    decides-follow word _ due_word _ decides-word (λ w.
    decides-demand (not (is_left_out_type w.1)) Unsupported w.0 _ _ (
    decides-demand (has (stored_of w.1)) Keyword w.0 _ _ (
    decides-demand (not (read && is_real (named_by w.1))) FloatArray w.0 _ _ (decides-gives (named_by w.1)))))

pub decides-count_from : (least : ℕ) → Decides (count_from least) (count_from_at least)
unfolding count_from_at
decides-count_from least =
    decides-follow number _ due_number _ decides-number (λ n.
    decides-demand (is_at_least least n.1) Count n.0 _ _ (
    decides-demand (is_below (2 ^ 31) n.1) TooMany n.0 _ _ (decides-gives (unsigned_abs n.1))))

decides-dimension : Decides dimension dimension_at
unfolding dimension_at
decides-dimension =
    decides-follow number _ due_number _ decides-number (λ n.
    decides-demand (is_at_least 1 n.1 && is_below 4 n.1) Count n.0 _ _ (decides-gives (unsigned_abs n.1)))

decides-same_count : (count : ℕ) → Decides (same_count count) (same_count_at count)
unfolding same_count_at
decides-same_count count =
    decides-follow number _ due_number _ decides-number (λ n. decides-demand (is_number count n.1) Count n.0 _ _ (decides-gives tt))

decides-components : Decides components components_at
unfolding components_at
decides-components = decides-beside is_beside (count_from 1) (gives 1) (count_from_at 1) (λ r. Ok (1, r)) (decides-count_from 1) (decides-gives 1)

-- ---- values

-- a value behind the place of its word
abbrev checked : Kind8 → (ℕ × ℤ) × Reading → Result (ℤ × Reading) FileFault
checked kind n = guard (fits kind n.0.1) ValueRange n.0.0 >>= λ is. Ok (n.0.1, n.1)

-- the same where the place is looked for afterwards
abbrev checked_later : Kind8 → ℕ → ℤ × Reading → Result (ℤ × Reading) FileFault
checked_later kind place n = guard (fits kind n.0) ValueRange place >>= λ is. Ok n

-- the word of a span
abbrev word_in : Reading → Span × Reading → Result ((ℕ × List ℕ) × Reading) FileFault
word_in r found = Ok ((found.0.start, text_of r found.0), found.1)

-- a number with the place of its word, and without
abbrev placed : (ℕ × List ℕ) × Reading → Result ((ℕ × ℤ) × Reading) FileFault
placed w = number_at w.0.1 w.0.0 >>= λ n. Ok ((w.0.0, n), w.1)

abbrev unplaced : Reading → Span × Reading → Result (ℤ × Reading) FileFault
unplaced r found = number_at (text_of r found.0) found.0.start >>= λ n. Ok (n, found.1)

same_number : (kind : Kind8) (place : ℕ) (next : Reading) (m : Result ℤ FileFault)
    → ((m >>= λ n. Ok (n, next)) >>= checked_later kind place) ≡ ((m >>= λ n. Ok ((place, n), next)) >>= checked kind)
same_number kind place next (Ok n) = refl
same_number kind place next (Err f) = refl

same_value : (kind : Kind8) (r : Reading) (o : Option (Span × Reading))
    → ((ok_or o (fault_at Truncated (length r.bytes)) >>= unplaced r) >>= checked_later kind (unwrap_or (option_map (λ (found : Span × Reading). found.0.start) o) (length r.bytes)))
    ≡ (((ok_or o (fault_at Truncated (length r.bytes)) >>= word_in r) >>= placed) >>= checked kind)
same_value kind r None = refl
same_value kind r (Some found) = same_number kind found.0.start found.1 (number_at (text_of r found.0) found.0.start)

value_at-number : (kind : Kind8) (r : Reading) → value_at kind r ≡ (due_number r >>= checked kind)
unfolding value_at due_number due_word whole_at
value_at-number kind r = same_value kind r (word_at r)

decides-value : (kind : Kind8) → Decides (value kind) (value_at kind)
decides-value kind =
    decides-same (value kind) (λ r. due_number r >>= checked kind) (value_at kind) (value_at-number kind)
    (decides-follow number (λ n. demand (fits kind n.1) (fault_at ValueRange n.0) (gives n.1)) due_number (λ n r. guard (fits kind n.1) ValueRange n.0 >>= λ is. Ok (n.1, r)) decides-number
    (λ n. decides-demand (fits kind n.1) ValueRange n.0 (gives n.1) (λ r. Ok (n.1, r)) (decides-gives n.1)))

-- behind all of them
abbrev ended : List ℤ × Reading → Result (Unit {0} × Reading) FileFault
ended xs = Ok (tt, xs.1)

-- one in front of the others
abbrev in_front : ℤ → List ℤ × Reading → Result (List ℤ × Reading) FileFault
in_front x xs = Ok (x ∷ xs.0, xs.1)

-- the first, behind the others
abbrev kept : ℤ → List ℤ × Reading → Result (ℤ × Reading) FileFault
kept x ys = Ok (x, ys.1)

abbrev kept_first : ℤ → Unit {0} × Reading → Result (ℤ × Reading) FileFault
kept_first x y = Ok (x, y.1)

ended_front : (x : ℤ) (read : Result (List ℤ × Reading) FileFault) → (read >>= ended) ≡ ((read >>= in_front x) >>= ended)
ended_front x (Ok xs) = refl
ended_front x (Err f) = refl

others_step : (kind : Kind8) (n : ℕ) (read : Result (ℤ × Reading) FileFault) → ((r : Reading) → others_at kind n r ≡ (times_at (value_at kind) n r >>= ended))
    → (read >>= λ x. others_at kind n x.1) ≡ ((read >>= λ x. times_at (value_at kind) n x.1 >>= in_front x.0) >>= ended)
others_step kind n (Ok x) later = later x.1 ∙ ended_front x.0 (times_at (value_at kind) n x.1)
others_step kind n (Err f) later = refl

others_at-times : (kind : Kind8) (n : ℕ) (r : Reading) → others_at kind n r ≡ (times_at (value_at kind) n r >>= ended)
unfolding others_at
others_at-times kind zero r = refl
others_at-times kind (suc n) r = others_step kind n (value_at kind r) (others_at-times kind n)

kept_ended : (x : ℤ) (read : Result (List ℤ × Reading) FileFault) → ((read >>= ended) >>= kept_first x) ≡ (read >>= kept x)
kept_ended x (Ok ys) = refl
kept_ended x (Err f) = refl

tuple_step : (kind : Kind8) (n : ℕ) (read : Result (ℤ × Reading) FileFault)
    → (read >>= λ x. others_at kind n x.1 >>= kept_first x.0) ≡ (read >>= λ x. times_at (value_at kind) n x.1 >>= kept x.0)
tuple_step kind n (Ok x) = ap (λ (o : Result (Unit {0} × Reading) FileFault). o >>= kept_first x.0) (others_at-times kind n x.1) ∙ kept_ended x.0 (times_at (value_at kind) n x.1)
tuple_step kind n (Err f) = refl

tuple_at-times : (kind : Kind8) (components : ℕ) (r : Reading) → tuple_at kind components r ≡ (value_at kind r >>= λ x. times_at (value_at kind) (components - 1) x.1 >>= kept x.0)
unfolding tuple_at
tuple_at-times kind components r = tuple_step kind (components - 1) (value_at kind r)

decides-tuple : (kind : Kind8) (components : ℕ) → Decides (tuple kind components) (tuple_at kind components)
decides-tuple kind components =
    decides-same (tuple kind components) (λ r. value_at kind r >>= λ x. times_at (value_at kind) (components - 1) x.1 >>= kept x.0) (tuple_at kind components) (tuple_at-times kind components)
    (decides-follow (value kind) (λ x. follow (times (components - 1) (value kind)) (λ ys. gives x)) (value_at kind) (λ x r. times_at (value_at kind) (components - 1) r >>= kept x) (decides-value kind)
    (λ x. decides-follow (times (components - 1) (value kind)) (λ ys. gives x) (times_at (value_at kind) (components - 1)) (λ ys r. Ok (x, r)) (decides-times (value kind) (value_at kind) (decides-value kind) (components - 1)) (λ ys. decides-gives x)))

-- the numbers of a column
abbrev as_column : Kind8 → List ℤ × Reading → Result (Numbers × Reading) FileFault
as_column kind xs = Ok (record { kind = kind; items = xs.0 }, xs.1)

abbrev as_some : Numbers × Reading → Result (Option Numbers × Reading) FileFault
as_some column = Ok (Some column.0, column.1)

abbrev as_picked : Kind8 → List ℤ × Reading → Result (Option Numbers × Reading) FileFault
as_picked kind xs = Ok (Some (record { kind = kind; items = xs.0 }), xs.1)

picked_column : (kind : Kind8) (read : Result (List ℤ × Reading) FileFault) → ((read >>= as_column kind) >>= as_some) ≡ (read >>= as_picked kind)
picked_column kind (Ok xs) = refl
picked_column kind (Err f) = refl

text_picked : (stored : Stored) (tuples components : ℕ) (r : Reading)
    → text_values_at true stored tuples components r ≡ (times_at (tuple_at (kind_of stored) components) tuples r >>= as_picked (kind_of stored))
unfolding text_values_at column_at tuples_at
text_picked stored tuples components r = picked_column (kind_of stored) (times_at (tuple_at (kind_of stored) components) tuples r)

decides-text_passed : (stored : Stored) (tuples components : ℕ) → Decides (text_values false stored tuples components) (text_values_at false stored tuples components)
unfolding text_values_at
decides-text_passed stored tuples components = decides-follow (words (tuples * components)) _ (words_at (tuples * components)) _ (decides-words (tuples * components)) (λ ws. decides-gives _)

decides-text_values : (picked : Bool) (stored : Stored) (tuples components : ℕ) → Decides (text_values picked stored tuples components) (text_values_at picked stored tuples components)
decides-text_values true stored tuples components =
    decides-same (text_values true stored tuples components) (λ r. times_at (tuple_at (kind_of stored) components) tuples r >>= as_picked (kind_of stored)) (text_values_at true stored tuples components) (text_picked stored tuples components)
    (decides-follow (times tuples (tuple (kind_of stored) components)) _ (times_at (tuple_at (kind_of stored) components) tuples) _
    (decides-times (tuple (kind_of stored) components) (tuple_at (kind_of stored) components) (decides-tuple (kind_of stored) components) tuples) (λ xs. decides-gives _))
decides-text_values false stored tuples components = decides-text_passed stored tuples components

-- what is kept of a block
abbrev as_block : Bool → Stored → ℕ → ℕ → List ℕ × Reading → Result (Option Numbers × Reading) FileFault
as_block picked stored tuples components bytes = Ok (block_numbers picked stored tuples components bytes.0, bytes.1)

block_step : (picked : Bool) (stored : Stored) (tuples components : ℕ) (read : Result (Unit {0} × Reading) FileFault)
    → ((read >>= λ e. bytes_at (tuples * components * bytes_of stored) e.1) >>= as_block picked stored tuples components)
    ≡ (read >>= λ e. bytes_at (tuples * components * bytes_of stored) e.1 >>= as_block picked stored tuples components)
block_step picked stored tuples c (Ok e) = refl
block_step picked stored tuples c (Err f) = refl

block_values_at-steps : (picked : Bool) (stored : Stored) (tuples components : ℕ) (r : Reading)
    → block_values_at picked stored tuples components r ≡ (line_end_at r >>= λ e. bytes_at (tuples * components * bytes_of stored) e.1 >>= as_block picked stored tuples components)
unfolding block_values_at line_bytes_at
block_values_at-steps picked stored tuples components r = block_step picked stored tuples components (line_end_at r)

decides-block_values : (picked : Bool) (stored : Stored) (tuples components : ℕ) → Decides (block_values picked stored tuples components) (block_values_at picked stored tuples components)
decides-block_values picked stored tuples components =
    decides-same (block_values picked stored tuples components) (λ r. line_end_at r >>= λ e. bytes_at (tuples * components * bytes_of stored) e.1 >>= as_block picked stored tuples components) (block_values_at picked stored tuples components) (block_values_at-steps picked stored tuples components)
    (decides-follow line_end _ line_end_at _ decides-line_end (λ e.
    decides-follow (block (tuples * components * bytes_of stored)) _ (bytes_at (tuples * components * bytes_of stored)) _ (decides-block (tuples * components * bytes_of stored)) (λ bytes. decides-gives _)))

pub decides-values : (binary picked : Bool) (stored : Stored) (tuples components : ℕ) → Decides (values binary picked stored tuples components) (values_at binary picked stored tuples components)
unfolding values_at
decides-values binary picked stored tuples components =
    decides-choose binary _ _ _ _ (decides-block_values picked stored tuples components) (decides-text_values picked stored tuples components)

-- ---- arrays

decides-array : (g : Given) (before : List Part) (head : Head) (stored : Stored) (tuples components : ℕ) → Decides (array g before head stored tuples components) (array_at g (known g before) head stored tuples components)
unfolding array_at
decides-array g before head stored tuples components =
    decides-follow (values g.binary (is_picked g before head) stored tuples components) _ (values_at g.binary (is_picked g before head) stored tuples components) _ (decides-values g.binary (is_picked g before head) stored tuples components) (λ column.
    decides-follow metadata _ any_metadata_at _ decides-metadata (λ passed. decides-gives _))

decides-association : (g : Given) (which : Association) → Decides (association g which) (association_at g which)
unfolding association_at
decides-association g which = decides-follow (same_count (count_of g which)) _ (same_count_at (count_of g which)) _ (decides-same_count (count_of g which)) (λ same. decides-gives _)

decides-scalars : (g : Given) (before : List Part) (which : Association) → Decides (scalars g before which) (scalars_at g (known g before) which)
unfolding scalars_at
decides-scalars g before which =
    decides-follow word _ due_word _ decides-word (λ name.
    decides-follow (type_word (is_picked g before (scalars_head g which name.1))) _ (type_at (is_picked g before (scalars_head g which name.1))) _ (decides-type_word (is_picked g before (scalars_head g which name.1))) (λ stored.
    decides-follow components _ components_at _ decides-components (λ c.
    decides-follow (keyword (codes "LOOKUP_TABLE")) _ (keyword_at (codes "LOOKUP_TABLE")) _ (decides-keyword (codes "LOOKUP_TABLE")) (λ key.
    decides-follow word _ due_word _ decides-word (λ table.
    decides-array g before (scalars_head g which name.1) stored (count_of g which) c)))))

decides-vectors : (g : Given) (before : List Part) (which : Association) (c : ℕ) → Decides (vectors g before which c) (vectors_at g (known g before) which c)
unfolding vectors_at
decides-vectors g before which c =
    decides-follow word _ due_word _ decides-word (λ name.
    decides-follow (type_word false) _ (type_at false) _ (decides-type_word false) (λ stored.
    decides-array g before (head_in g which name.1) stored (count_of g which) c))

decides-texture : (g : Given) (before : List Part) (which : Association) → Decides (texture g before which) (texture_at g (known g before) which)
unfolding texture_at
decides-texture g before which =
    decides-follow word _ due_word _ decides-word (λ name.
    decides-follow dimension _ dimension_at _ decides-dimension (λ d.
    decides-follow (type_word false) _ (type_at false) _ (decides-type_word false) (λ stored.
    decides-array g before (head_in g which name.1) stored (count_of g which) d)))

decides-colors : (g : Given) (before : List Part) (which : Association) → Decides (colors g before which) (colors_at g (known g before) which)
unfolding colors_at
decides-colors g before which =
    decides-follow word _ due_word _ decides-word (λ name.
    decides-follow (count_from 1) _ (count_from_at 1) _ (decides-count_from 1) (λ c.
    decides-array g before (head_in g which name.1) (Whole U8) (count_of g which) c))

decides-table : (g : Given) (before : List Part) (which : Association) → Decides (table g before which) (table_at g (known g before) which)
unfolding table_at
decides-table g before which =
    decides-follow word _ due_word _ decides-word (λ name.
    decides-follow (count_from 0) _ (count_from_at 0) _ (decides-count_from 0) (λ size.
    decides-array g before (table_head which name.1 size) (Whole U8) size 4))

decides-field_values : (g : Given) (before : List Part) (which : Association) (name : List ℕ) → Decides (field_values g before which name) (field_values_at g (known g before) which name)
unfolding field_values_at
decides-field_values g before which name =
    decides-follow (count_from 1) _ (count_from_at 1) _ (decides-count_from 1) (λ c.
    decides-follow (count_from 0) _ (count_from_at 0) _ (decides-count_from 0) (λ t.
    decides-follow (type_word (is_picked g before (field_head which name t))) _ (type_at (is_picked g before (field_head which name t))) _ (decides-type_word (is_picked g before (field_head which name t))) (λ stored.
    decides-array g before (field_head which name t) stored t c)))

decides-field_array : (g : Given) (before : List Part) (which : Association) (inner : List Part) → Decides (field_array g before which inner) (field_array_at g (known g (before ++ inner)) which (is_first inner))
unfolding field_array_at
decides-field_array g before which inner =
    decides-follow word _ due_word _ decides-word (λ name.
    decides-demand (is_first inner || not (same_word name.1 (codes "METADATA"))) Keyword name.0 _ _ (decides-field_values g (before ++ inner) which name.1))

decides-inner : (g : Given) (before : List Part) (which : Association) (inner : List Part) → Decides (field_array g before which inner) (field_array_at g (with_parts g (known g before) inner) which (is_first inner))
decides-inner g before which inner =
    subst (λ (k : Known). Decides (field_array g before which inner) (field_array_at g k which (is_first inner))) (known-parts g before inner) (decides-field_array g before which inner)

decides-field : (g : Given) (before : List Part) (which : Association) → Decides (field g before which) (field_list_at g (known g before) which)
decides-field g before which =
    decides-follow word _ due_word _ decides-word (λ name.
    decides-follow (count_from 0) _ (count_from_at 0) _ (decides-count_from 0) (λ n.
    decides-times_knowing (field_array g before which) (λ inner. field_array_at g (with_parts g (known g before) inner) which (is_first inner)) (decides-inner g before which) n))

-- ---- parts

decides-alone : (rule : Rule Part) (read : Reading → Result (Part × Reading) FileFault) → Decides rule read → Decides (alone rule) (alone_at read)
decides-alone rule read d = decides-follow rule _ read _ d (λ part. decides-gives _)

decides-arrays : (g : Given) (before : List Part) (which : Association) (key : ℕ × List ℕ) → Decides (arrays g before which key) (arrays_list_at g (known g before) which key)
decides-arrays g before which key =
    let k = known g before in
    decides-choose (same_word key.1 (codes "SCALARS")) _ _ _ _ (decides-alone _ (scalars_at g k which) (decides-scalars g before which))
    (decides-choose (same_word key.1 (codes "VECTORS") || same_word key.1 (codes "NORMALS")) _ _ _ _ (decides-alone _ (vectors_at g k which 3) (decides-vectors g before which 3))
    (decides-choose (same_word key.1 (codes "TENSORS")) _ _ _ _ (decides-alone _ (vectors_at g k which 9) (decides-vectors g before which 9))
    (decides-choose (same_word key.1 (codes "TEXTURE_COORDINATES")) _ _ _ _ (decides-alone _ (texture_at g k which) (decides-texture g before which))
    (decides-choose (same_word key.1 (codes "COLOR_SCALARS")) _ _ _ _ (decides-alone _ (colors_at g k which) (decides-colors g before which))
    (decides-choose (same_word key.1 (codes "LOOKUP_TABLE")) _ _ _ _ (decides-alone _ (table_at g k which) (decides-table g before which))
    (decides-choose (same_word key.1 (codes "FIELD")) _ _ _ _ (decides-field g before which)
    (decides-refuses (fault_at (keyword_kind key.1) key.0))))))))

decides-arrays_in : (g : Given) (before : List Part) (last : Option Association) (key : ℕ × List ℕ) → Decides (arrays_in g before last key) (arrays_in_list_at g (known g before) last key)
decides-arrays_in g before None key = decides-refuses (fault_at (keyword_kind key.1) key.0)
decides-arrays_in g before (Some which) key = decides-arrays g before which key

decides-behind : (g : Given) (before : List Part) (key : ℕ × List ℕ) → Decides (behind g before key) (behind_list_at g (known g before) key)
decides-behind g before key =
    decides-choose (same_word key.1 (codes "POINT_DATA")) _ _ _ _ (decides-alone _ (association_at g Points) (decides-association g Points))
    (decides-choose (same_word key.1 (codes "CELL_DATA")) _ _ _ _ (decides-alone _ (association_at g Cells) (decides-association g Cells))
    (decides-arrays_in g before (association_of None before) key))

decides-part : (g : Given) (before : List Part) → Decides (part g before) (part_list_at g (known g before))
decides-part g before = decides-follow word _ due_word _ decides-word (λ key. decides-behind g before key)

moves-part : (g : Given) → Moves (λ before. part g (joined before)) (λ before. part_list_at g (known g (joined before)))
moves-part g = record {
  decides = λ before. decides-part g (joined before);
  onward = λ before r next x h. onward-follow (behind g (joined before)) (behind_list_at g (known g (joined before))) (decides-behind g (joined before)) r next x h;
}

-- all attribute parts are decided
pub decides-parts : (g : Given) → Decides (parts g) (λ r. all_at (λ before. part_list_at g (known g (joined before))) (suc (length r.bytes)) [] r)
decides-parts g = decides-to_the_end (λ before. part g (joined before)) (λ before. part_list_at g (known g (joined before))) (moves-part g)
