-- The reader of all attributes decides their rule.
use Rattle.std.proofs.Common.{◌≡◌, ℕ, zero, suc, ◌+◌, Bool, true, false, ◌||◌, List, [], ◌∷◌, ◌++◌, length, Option, Some, None, Result, Ok, Err, refl, sym, ap, ◌∙◌, add-one}
use Rattle.std.specs.Prelude.{codes, if◌then◌else◌}
use Rattle.std.proofs.lemmas.Bool.{true≢false}
use Rattle.viz_column.specs.Numbers.{Numbers}
use Rattle.viz_lex.specs.declared.fault.FileFault.{FileFault}
use Rattle.viz_lex.specs.declared.fault.FileKind.TheVariants.{NoArray}
use Rattle.viz_lex.specs.Reading.{Reading, fault_at, ◌>>=◌}
use Rattle.viz_lex.specs.Words.{word_at}
use Rattle.viz_lex.specs.Steps.{has, same_word, due_word, keyword_kind}
use Rattle.viz_lex.specs.Rules.{Rule, IsDefinite, gives, choose, follow, Decides}
use Rattle.viz_lex.specs.Readers.{known_at, all_at}
use Rattle.viz_lex.proofs.ReadingLemmas.{fault_is}
use Rattle.viz_lex.proofs.RuleLemmas.{decides-gives, decides-follow, decides-choose}
use Rattle.viz_lex.proofs.PassRules.{decides-same}
use Rattle.viz_lex.proofs.DecidedLemmas.{IsDefinite-decided}
use Rattle.viz_attr.specs.declared.parts.Association.{Association}
use Rattle.viz_attr.specs.declared.stop.AttrStop.{AttrStop}
use Rattle.viz_attr.specs.declared.stop.AttrStop.TheVariants.{File, Memory}
use Rattle.viz_attr.specs.Attributes.{Meets}
use Rattle.viz_attr.specs.Reads.{ReadsUnlessMemory}
use Rattle.viz_attr.specs.declared.parts.Association.TheVariants.{Points, Cells}
use Rattle.viz_attr.specs.Picks.{Given, Part, has_fit, picked_of}
use Rattle.viz_attr.specs.Grammar.{is_first, joined, parts, is_zero, no_array, attributes}
use Rattle.viz_attr.specs.Steps.{Known, start, with_parts, count_from_at, association_at, scalars_at, vectors_at, texture_at, colors_at, table_at, field_array_at, field_arrays_at, field_at, arrays_at, arrays_in_at, behind_at, part_at, parts_at, picked_at, attributes_at}
use Rattle.viz_attr.proofs.ListReaders.{known, known-joined, settled, settled-alone, settled-if, fields-settled, field_list_at, arrays_list_at, arrays_in_list_at, behind_list_at, part_list_at}
use Rattle.viz_attr.proofs.PartLaws.{decides-parts}

-- ---- the state that is kept is that of the list

field_counted : (g : Given) (k : Known) (which : Association) (count : Result (ℕ × Reading) FileFault)
    → (count >>= λ n. field_arrays_at g k which true n.0 n.1)
    ≡ settled g k (count >>= λ n. known_at (λ inner. field_array_at g (with_parts g k inner) which (is_first inner)) n.0 [] n.1)
field_counted g k which (Ok n) = fields-settled g k which n.0 [] n.1
field_counted g k which (Err f) = refl

field_named : (g : Given) (k : Known) (which : Association) (name : Result ((ℕ × List ℕ) × Reading) FileFault)
    → (name >>= λ w. count_from_at 0 w.1 >>= λ n. field_arrays_at g k which true n.0 n.1)
    ≡ settled g k (name >>= λ w. count_from_at 0 w.1 >>= λ n. known_at (λ inner. field_array_at g (with_parts g k inner) which (is_first inner)) n.0 [] n.1)
field_named g k which (Ok w) = field_counted g k which (count_from_at 0 w.1)
field_named g k which (Err f) = refl

field-settled : (g : Given) (k : Known) (which : Association) (r : Reading) → field_at g k which r ≡ settled g k (field_list_at g k which r)
unfolding field_at
field-settled g k which r = field_named g k which (due_word r)

arrays-settled : (g : Given) (k : Known) (which : Association) (key : ℕ × List ℕ) (r : Reading) → arrays_at g k which key r ≡ settled g k (arrays_list_at g k which key r)
unfolding arrays_at
arrays-settled g k which key r =
    settled-if g k (same_word key.1 (codes "SCALARS")) _ _ _ _ (settled-alone g k (scalars_at g k which r))
    (settled-if g k (same_word key.1 (codes "VECTORS") || same_word key.1 (codes "NORMALS")) _ _ _ _ (settled-alone g k (vectors_at g k which 3 r))
    (settled-if g k (same_word key.1 (codes "TENSORS")) _ _ _ _ (settled-alone g k (vectors_at g k which 9 r))
    (settled-if g k (same_word key.1 (codes "TEXTURE_COORDINATES")) _ _ _ _ (settled-alone g k (texture_at g k which r))
    (settled-if g k (same_word key.1 (codes "COLOR_SCALARS")) _ _ _ _ (settled-alone g k (colors_at g k which r))
    (settled-if g k (same_word key.1 (codes "LOOKUP_TABLE")) _ _ _ _ (settled-alone g k (table_at g k which r))
    (settled-if g k (same_word key.1 (codes "FIELD")) _ _ _ _ (field-settled g k which r) refl))))))

arrays_in-settled : (g : Given) (k : Known) (last : Option Association) (key : ℕ × List ℕ) (r : Reading) → arrays_in_at g k last key r ≡ settled g k (arrays_in_list_at g k last key r)
unfolding arrays_in_at
arrays_in-settled g k None key r = refl
arrays_in-settled g k (Some which) key r = arrays-settled g k which key r

behind-settled : (g : Given) (k : Known) (key : ℕ × List ℕ) (r : Reading) → behind_at g k key r ≡ settled g k (behind_list_at g k key r)
unfolding behind_at
behind-settled g k key r =
    settled-if g k (same_word key.1 (codes "POINT_DATA")) _ _ _ _ (settled-alone g k (association_at g Points r))
    (settled-if g k (same_word key.1 (codes "CELL_DATA")) _ _ _ _ (settled-alone g k (association_at g Cells r))
    (arrays_in-settled g k k.association key r))

part_keyed : (g : Given) (k : Known) (key : Result ((ℕ × List ℕ) × Reading) FileFault)
    → (key >>= λ w. behind_at g k w.0 w.1) ≡ settled g k (key >>= λ w. behind_list_at g k w.0 w.1)
part_keyed g k (Ok w) = behind-settled g k w.0 w.1
part_keyed g k (Err f) = refl

part-settled : (g : Given) (k : Known) (r : Reading) → part_at g k r ≡ settled g k (part_list_at g k r)
unfolding part_at
part-settled g k r = part_keyed g k (due_word r)

-- a list of parts that was read, as what is known
abbrev as_known : Given → List (List Part) × Reading → Result (Known × Reading) FileFault
as_known g xs = Ok (known g (joined xs.0), xs.1)

-- the next part behind those before
abbrev next : Given → List (List Part) → Reading → Result (List Part × Reading) FileFault
next g before r = part_list_at g (known g (joined before)) r

parts_step : (g : Given) (n : ℕ) (before : List (List Part)) (read : Result (List Part × Reading) FileFault)
    → ((before : List (List Part)) (r : Reading) → parts_at g (known g (joined before)) n r ≡ (all_at (next g) n before r >>= as_known g))
    → (settled g (known g (joined before)) read >>= λ x. parts_at g x.0 n x.1) ≡ ((read >>= λ x. all_at (next g) n (before ++ x.0 ∷ []) x.1) >>= as_known g)
parts_step g n before (Ok x) later = ap (λ (k : Known). parts_at g k n x.1) (known-joined g before x.0) ∙ later (before ++ x.0 ∷ []) x.1
parts_step g n before (Err f) later = refl

parts_choice : (g : Given) (b : Bool) (p : Result (Known × Reading) FileFault) (q : Result (List (List Part) × Reading) FileFault) (before : List (List Part)) (r : Reading)
    → p ≡ (q >>= as_known g) → (if b then p else Ok (known g (joined before), r)) ≡ ((if b then q else Ok (before, r)) >>= as_known g)
parts_choice g true p q before r e = e
parts_choice g false p q before r e = refl

parts-settled : (g : Given) (n : ℕ) (before : List (List Part)) (r : Reading) → parts_at g (known g (joined before)) n r ≡ (all_at (next g) n before r >>= as_known g)
unfolding parts_at all_at
parts-settled g zero before r = refl
parts-settled g (suc n) before r =
    let k = known g (joined before) in
    let one = ap (λ (o : Result (Known × Reading) FileFault). o >>= λ x. parts_at g x.0 n x.1) (part-settled g k r) in
    parts_choice g (has (word_at r)) _ _ before r (one ∙ parts_step g n before (next g before r) (parts-settled g n))

-- ---- the picked array

decides-no_array : Decides no_array (λ r. Err (fault_at NoArray (length r.bytes)))
decides-no_array = record {
  found = λ r x e. absurd (let no : failed_at r ≡ Ok x = e in cc);
  only = λ r next x h. absurd h;
  stops = λ r f e. sym (fault_is {A = Option Numbers × Reading} (fault_at NoArray (length r.bytes)) f e);
  only_stops = λ r f h. rw h refl;
  along = λ r next x h. absurd h;
} where
  failed_at : Reading → Result (Option Numbers × Reading) FileFault
  failed_at r = Err (fault_at NoArray (length r.bytes))

-- the numbers of the first array that fits
abbrev picked_behind : Given → List (List Part) × Reading → Result (Option Numbers × Reading) FileFault
picked_behind g xs = if is_zero g.pick || has_fit g (joined xs.0) then Ok (picked_of g (joined xs.0), xs.1) else Err (fault_at NoArray (length xs.1.bytes))

picked_known : (g : Given) (read : Result (List (List Part) × Reading) FileFault) → ((read >>= as_known g) >>= λ all. picked_at g all.0 all.1) ≡ (read >>= picked_behind g)
unfolding picked_at
picked_known g (Ok xs) = refl
picked_known g (Err f) = refl

attributes_at-lists : (g : Given) (r : Reading) → attributes_at g r ≡ (all_at (next g) (suc (length r.bytes)) [] r >>= picked_behind g)
unfolding attributes_at
attributes_at-lists g r =
    let e = parts-settled g (length r.bytes + 1) [] r in
    let n : length r.bytes + 1 ≡ suc (length r.bytes) = add-one (length r.bytes) in
    ap (λ (o : Result (Known × Reading) FileFault). o >>= λ all. picked_at g all.0 all.1) e ∙ picked_known g (all_at (next g) (length r.bytes + 1) [] r) ∙ ap (λ (m : ℕ). all_at (next g) m [] r >>= picked_behind g) n

pub decides-attributes : (g : Given) → Decides (attributes g) (attributes_at g)
decides-attributes g =
    decides-same (attributes g) (λ r. all_at (next g) (suc (length r.bytes)) [] r >>= picked_behind g) (attributes_at g) (attributes_at-lists g)
    (decides-follow (parts g) _ (λ r. all_at (next g) (suc (length r.bytes)) [] r) (λ xs r. picked_behind g (xs, r)) (decides-parts g) (λ xs.
    decides-choose (is_zero g.pick || has_fit g (joined xs)) _ _ _ _ (decides-gives (picked_of g (joined xs))) decides-no_array))

-- each text has exactly one answer
pub definite-attributes : (g : Given) → IsDefinite (attributes g)
definite-attributes g = IsDefinite-decided (attributes g) (attributes_at g) (decides-attributes g)

-- what was read by steps is what stands by the rule
pub meets-attributes : (g : Given) (result : Result (Option Numbers) AttrStop) (old new : Reading) → ReadsUnlessMemory (λ column. column) result new (attributes_at g old) → Meets (attributes g) result old new
meets-attributes g (Ok x) old new h = (decides-attributes g).found old (x, new) h
meets-attributes g (Err (File f)) old new h = (decides-attributes g).stops old f h
meets-attributes g (Err Memory) old new h = tt
