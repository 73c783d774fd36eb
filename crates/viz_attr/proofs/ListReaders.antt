-- The readers of attribute parts as lists of parts, beside those that keep what is known.
use Rattle.std.proofs.Common.{◌≡◌, ℕ, zero, suc, ◌+◌, Bool, true, false, not, ◌&&◌, ◌||◌, List, [], ◌∷◌, ◌++◌, length, Option, Some, None, Result, Ok, Err, refl, sym, ap, ◌∙◌, append_assoc}
use Rattle.std.specs.Prelude.{codes, fold, if◌then◌else◌}
use Rattle.std.proofs.lemmas.Bool.{true≢false}
use Rattle.std.proofs.lemmas.List.{append-nil}
use Rattle.viz_column.specs.Numbers.{Numbers}
use Rattle.viz_lex.specs.declared.fault.FileFault.{FileFault}
use Rattle.viz_lex.specs.Reading.{Reading, fault_at, ◌>>=◌}
use Rattle.viz_lex.specs.Words.{word_at}
use Rattle.viz_lex.specs.Steps.{has, same_word, due_word, keyword_kind}
use Rattle.viz_lex.specs.Readers.{known_at, all_at}
use Rattle.viz_attr.specs.declared.parts.Association.{Association}
use Rattle.viz_attr.specs.declared.parts.Association.TheVariants.{Points, Cells}
use Rattle.viz_attr.specs.Picks.{Given, Head, Part, Begins, Holds, fits_pick, has_fit, picked_of, association_of}
use Rattle.viz_attr.specs.Grammar.{is_first, joined}
use Rattle.viz_attr.specs.Steps.{Known, with_part, with_parts, behind_part, count_from_at, association_at, scalars_at, vectors_at, texture_at, colors_at, table_at, field_array_at, field_arrays_at, field_at, arrays_at, arrays_in_at, behind_at, part_at, parts_at}

-- ---- what is known of a list of parts

abbrev pub known : Given → List Part → Known
known g ps = record { association = association_of None ps; found = has_fit g ps; picked = picked_of g ps }

association_of-append : (last : Option Association) (ps qs : List Part) → association_of last (ps ++ qs) ≡ association_of (association_of last ps) qs
association_of-append last [] qs = refl
association_of-append last (Begins association ∷ ps) qs = association_of-append (Some association) ps qs
association_of-append last (Holds head column ∷ ps) qs = association_of-append last ps qs

or_more : (a b c d : Bool) → b ≡ (c || d) → (a || b) ≡ ((a || c) || d)
or_more true b c d e = refl
or_more false b c d e = e

has_fit-append : (g : Given) (ps qs : List Part) → has_fit g (ps ++ qs) ≡ (has_fit g ps || has_fit g qs)
has_fit-append g [] qs = refl
has_fit-append g (Begins association ∷ ps) qs = has_fit-append g ps qs
has_fit-append g (Holds head column ∷ ps) qs = or_more (fits_pick g head) (has_fit g (ps ++ qs)) (has_fit g ps) (has_fit g qs) (has_fit-append g ps qs)

picked_none : (g : Given) (ps : List Part) → has_fit g ps ≡ false → picked_of g ps ≡ None
picked_none g [] e = refl
picked_none g (Begins association ∷ ps) e = picked_none g ps e
picked_none g (Holds head column ∷ ps) e = none_of (fits_pick g head) (has_fit g ps) column e (λ f. picked_none g ps f) where
  none_of : (fits rest : Bool) (column : Option Numbers) → (fits || rest) ≡ false → (rest ≡ false → picked_of g ps ≡ None) → (if fits then column else picked_of g ps) ≡ None
  none_of true rest column e later = absurd (true≢false e)
  none_of false rest column e later = later e

picked_here : (found fits : Bool) (old column : Option Numbers) → (found ≡ false → old ≡ None) → (if found then old else (if fits then column else None)) ≡ (if fits && not found then column else old)
picked_here true true old column none = refl
picked_here true false old column none = refl
picked_here false true old column none = refl
picked_here false false old column none = sym (none refl)

picked_of-append : (g : Given) (ps qs : List Part) → picked_of g (ps ++ qs) ≡ (if has_fit g ps then picked_of g ps else picked_of g qs)
picked_of-append g [] qs = refl
picked_of-append g (Begins association ∷ ps) qs = picked_of-append g ps qs
picked_of-append g (Holds head column ∷ ps) qs = either (fits_pick g head) (picked_of-append g ps qs) where
  either : (fits : Bool) → picked_of g (ps ++ qs) ≡ (if has_fit g ps then picked_of g ps else picked_of g qs)
      → (if fits then column else picked_of g (ps ++ qs)) ≡ (if fits || has_fit g ps then (if fits then column else picked_of g ps) else picked_of g qs)
  either true e = refl
  either false e = e

or_false : (a b : Bool) → (a || (b || false)) ≡ (a || b)
or_false true b = refl
or_false false true = refl
or_false false false = refl

-- with one part more
known-part : (g : Given) (ps : List Part) (p : Part) → known g (ps ++ p ∷ []) ≡ with_part g (known g ps) p
known-part g ps (Begins association) =
    let a = association_of-append None ps (Begins association ∷ []) in
    let b : has_fit g (ps ++ Begins association ∷ []) ≡ has_fit g ps = has_fit-append g ps (Begins association ∷ []) ∙ or_nothing (has_fit g ps) in
    let c : picked_of g (ps ++ Begins association ∷ []) ≡ picked_of g ps = picked_of-append g ps (Begins association ∷ []) ∙ if_none (has_fit g ps) (picked_of g ps) (picked_none g ps) in
    rw (a, b, c) refl where
      or_nothing : (a : Bool) → (a || false) ≡ a
      or_nothing true = refl
      or_nothing false = refl

      if_none : (found : Bool) (old : Option Numbers) → (found ≡ false → old ≡ None) → (if found then old else None) ≡ old
      if_none true old none = refl
      if_none false old none = sym (none refl)
known-part g ps (Holds head column) =
    let a : association_of None (ps ++ Holds head column ∷ []) ≡ association_of None ps = association_of-append None ps (Holds head column ∷ []) in
    let b : has_fit g (ps ++ Holds head column ∷ []) ≡ (has_fit g ps || fits_pick g head) = has_fit-append g ps (Holds head column ∷ []) ∙ or_false (has_fit g ps) (fits_pick g head) in
    let c : picked_of g (ps ++ Holds head column ∷ []) ≡ (if fits_pick g head && not (has_fit g ps) then column else picked_of g ps) = picked_of-append g ps (Holds head column ∷ []) ∙ picked_here (has_fit g ps) (fits_pick g head) (picked_of g ps) column (picked_none g ps) in
    rw (a, b, c) refl

-- with several more
pub known-parts : (g : Given) (ps qs : List Part) → known g (ps ++ qs) ≡ with_parts g (known g ps) qs
known-parts g ps [] = ap (known g) (append-nil ps)
known-parts g ps (q ∷ qs) =
    ap (known g) (sym (append_assoc ps (q ∷ []) qs)) ∙ known-parts g (ps ++ q ∷ []) qs ∙ ap (λ (k : Known). with_parts g k qs) (known-part g ps q)

joined-append : (xs : List (List Part)) (x : List Part) → joined (xs ++ x ∷ []) ≡ joined xs ++ x
joined-append [] x = append-nil x
joined-append (y ∷ ys) x = ap (λ (zs : List Part). y ++ zs) (joined-append ys x) ∙ sym (append_assoc y (joined ys) x)

pub known-joined : (g : Given) (xs : List (List Part)) (x : List Part) → with_parts g (known g (joined xs)) x ≡ known g (joined (xs ++ x ∷ []))
known-joined g xs x = sym (ap (known g) (joined-append xs x) ∙ known-parts g (joined xs) x)

-- ---- readers of lists

-- a part alone
abbrev pub alone_at : (Reading → Result (Part × Reading) FileFault) → Reading → Result (List Part × Reading) FileFault
alone_at read r = read r >>= λ x. Ok (x.0 ∷ [], x.1)

-- FIELD
abbrev pub field_list_at : Given → Known → Association → Reading → Result (List Part × Reading) FileFault
field_list_at g k which r = due_word r >>= λ name. count_from_at 0 name.1 >>= λ n. known_at (λ inner. field_array_at g (with_parts g k inner) which (is_first inner)) n.0 [] n.1

-- what stands behind the keyword of an array
abbrev pub arrays_list_at : Given → Known → Association → ℕ × List ℕ → Reading → Result (List Part × Reading) FileFault
arrays_list_at g k which key r =
    if same_word key.1 (codes "SCALARS") then alone_at (scalars_at g k which) r
    else (if same_word key.1 (codes "VECTORS") || same_word key.1 (codes "NORMALS") then alone_at (vectors_at g k which 3) r
    else (if same_word key.1 (codes "TENSORS") then alone_at (vectors_at g k which 9) r
    else (if same_word key.1 (codes "TEXTURE_COORDINATES") then alone_at (texture_at g k which) r
    else (if same_word key.1 (codes "COLOR_SCALARS") then alone_at (colors_at g k which) r
    else (if same_word key.1 (codes "LOOKUP_TABLE") then alone_at (table_at g k which) r
    else (if same_word key.1 (codes "FIELD") then field_list_at g k which r
    else Err (fault_at (keyword_kind key.1) key.0)))))))

-- in an association alone
abbrev pub arrays_in_list_at : Given → Known → Option Association → ℕ × List ℕ → Reading → Result (List Part × Reading) FileFault
arrays_in_list_at g k None key r = Err (fault_at (keyword_kind key.1) key.0)
arrays_in_list_at g k (Some which) key r = arrays_list_at g k which key r

-- what stands behind a keyword
abbrev pub behind_list_at : Given → Known → ℕ × List ℕ → Reading → Result (List Part × Reading) FileFault
behind_list_at g k key r =
    if same_word key.1 (codes "POINT_DATA") then alone_at (association_at g Points) r
    else (if same_word key.1 (codes "CELL_DATA") then alone_at (association_at g Cells) r
    else arrays_in_list_at g k k.association key r)

-- a part
abbrev pub part_list_at : Given → Known → Reading → Result (List Part × Reading) FileFault
part_list_at g k r = due_word r >>= λ key. behind_list_at g k key.0 key.1

-- ---- what is known behind them

-- what is known behind the parts of a list
abbrev pub settled : Given → Known → Result (List Part × Reading) FileFault → Result (Known × Reading) FileFault
settled g k read = read >>= λ x. Ok (with_parts g k x.0, x.1)

pub settled-alone : (g : Given) (k : Known) (read : Result (Part × Reading) FileFault) → behind_part g k read ≡ settled g k (read >>= λ x. Ok (x.0 ∷ [], x.1))
settled-alone g k (Ok x) = refl
settled-alone g k (Err f) = refl

pub settled-if : (g : Given) (k : Known) (b : Bool) (p q : Result (Known × Reading) FileFault) (x y : Result (List Part × Reading) FileFault)
    → p ≡ settled g k x → q ≡ settled g k y → (if b then p else q) ≡ settled g k (if b then x else y)
settled-if g k true p q x y e f = e
settled-if g k false p q x y e f = f

is_first-more : (ps : List Part) (p : Part) → is_first (ps ++ p ∷ []) ≡ false
is_first-more [] p = refl
is_first-more (q ∷ qs) p = refl

with_parts-more : (g : Given) (k : Known) (ps : List Part) (p : Part) → with_parts g k (ps ++ p ∷ []) ≡ with_part g (with_parts g k ps) p
with_parts-more g k [] p = refl
with_parts-more g k (q ∷ qs) p = with_parts-more g (with_part g k q) qs p

field_step : (g : Given) (k : Known) (which : Association) (n : ℕ) (inner : List Part) (read : Result (Part × Reading) FileFault)
    → ((inner : List Part) (r : Reading) → field_arrays_at g (with_parts g k inner) which (is_first inner) n r ≡ settled g k (known_at (λ i. field_array_at g (with_parts g k i) which (is_first i)) n inner r))
    → (behind_part g (with_parts g k inner) read >>= λ x. field_arrays_at g x.0 which false n x.1)
    ≡ settled g k (read >>= λ x. known_at (λ i. field_array_at g (with_parts g k i) which (is_first i)) n (inner ++ x.0 ∷ []) x.1)
field_step g k which n inner (Ok x) later =
    let here = later (inner ++ x.0 ∷ []) x.1 in
    rw (← with_parts-more g k inner x.0, ← is_first-more inner x.0) here
field_step g k which n inner (Err f) later = refl

pub fields-settled : (g : Given) (k : Known) (which : Association) (n : ℕ) (inner : List Part) (r : Reading)
    → field_arrays_at g (with_parts g k inner) which (is_first inner) n r ≡ settled g k (known_at (λ i. field_array_at g (with_parts g k i) which (is_first i)) n inner r)
unfolding field_arrays_at
fields-settled g k which zero inner r = refl
fields-settled g k which (suc n) inner r =
    field_step g k which n inner (field_array_at g (with_parts g k inner) which (is_first inner) r) (fields-settled g k which n)
