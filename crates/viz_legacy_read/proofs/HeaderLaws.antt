-- The readers of a header decide their rules.
use Rattle.std.proofs.Common.{◌≡◌, ◌⊎◌, ℕ, suc, ◌+◌, ◌*◌, ◌^◌, Bool, true, false, not, ◌&&◌, ◌||◌, List, [], ◌∷◌, ◌++◌, length, Option, Some, None, Result, Ok, Err, refl, sym, ap, subst, ◌∙◌, add-one}
use Rattle.std.specs.Prelude.{codes, nat_le, nat_lt, fold, unsigned_abs, if◌then◌else◌}
use Rattle.viz_extent.specs.Extent.{Bounds}
use Rattle.viz_dataset.specs.Images.{Vector}
use Rattle.viz_lex.specs.declared.fault.FileFault.{FileFault}
use Rattle.viz_lex.specs.declared.fault.FileKind.TheVariants.{Form, Count, Spacing, HeaderNumber, TooMany, Unsupported}
use Rattle.viz_lex.specs.Reading.{Reading, fault_at, ◌>>=◌}
use Rattle.viz_lex.specs.Steps.{has, same_word, due_word, due_number, due_decimal, keyword_kind, keyword_at, is_next}
use Rattle.viz_lex.specs.Readers.{skip_at, known_at}
use Rattle.viz_lex.specs.Rules.{gives, follow, Decides}
use Rattle.viz_lex.specs.Repeats.{times_knowing, skip}
use Rattle.viz_lex.specs.Items.{word, number, decimal, keyword}
use Rattle.viz_lex.proofs.RuleLemmas.{decides-gives, decides-refuses, decides-follow, decides-demand, decides-choose}
use Rattle.viz_lex.proofs.KnownLemmas.{decides-times_knowing}
use Rattle.viz_lex.proofs.ItemLemmas.{decides-word, decides-number, decides-decimal, decides-keyword, onward-follow}
use Rattle.viz_lex.proofs.SkipLemmas.{decides-skip, is_next-ends}
use Rattle.viz_lex.proofs.PassRules.{decides-same}
use Rattle.viz_attr.specs.Counts.{is_at_least}
use Rattle.viz_attr.specs.Passed.{passed_field}
use Rattle.viz_attr.specs.PassedSteps.{passed_field_at}
use Rattle.viz_attr.proofs.PassedLaws.{decides-passed_field}
use Rattle.viz_legacy_read.specs.declared.front.DatasetWord.TheVariants.{Points, Grid, Polydata}
use Rattle.viz_legacy_read.specs.declared.front.Preamble.{Preamble}
use Rattle.viz_legacy_read.specs.Header.{form, dataset_word, dataset, preamble, is_image, image_header, behind_preamble, is_left_out_dataset, Line, Geometry, no_line, with_line, geometry_of, size, whole_of, sizes, origin, is_above, step, spacing, behind, one_field, header_line, header_of, header}
use Rattle.viz_legacy_read.specs.Header.Line.{Sizes, Origin, Spacing_of}
use Rattle.viz_legacy_read.specs.Header.Heading.{OfImage, OfMesh}
use Rattle.viz_legacy_read.specs.Steps.{two_lines_at, form_at, dataset_word_at, dataset_at, preamble_at, image_heading_at, behind_preamble_at, size_at, sizes_at, origin_at, step_at, spacing_at, behind_at, one_field_at, fields_at, header_line_at, lines_at, lines_header_at, header_at}
use Rattle.std.proofs.Common.{◌-◌, length-append, length-drop, drop, take, inl, inr, arith}
use Rattle.viz_lex.specs.declared.fault.FileKind.{FileKind}
use Rattle.viz_lex.specs.declared.fault.FileKind.TheVariants.{Magic, Title}
use Rattle.viz_lex.specs.Reading.{rest_of, advanced}
use Rattle.viz_lex.specs.Words.{line_len, IsNextLine}
use Rattle.viz_lex.specs.Rules.{IsAlong}
use Rattle.viz_lex.specs.Repeats.{Skips}
use Rattle.viz_lex.specs.Readers.{folded_at}
use Rattle.viz_lex.proofs.PassRules.{decides-total}
use Rattle.viz_lex.proofs.LineLemmas.{line_len-Some, line_len-None, line_at-next, line_at-none, text_of-line}
use Rattle.viz_lex.proofs.FoldLemmas.{as_state, fold-known}
use Rattle.viz_legacy_read.specs.Magic.{magic, is_magic, is_later, line, two_lines}
use Rattle.viz_legacy_read.specs.Header.{Header}
use Rattle.viz_legacy_read.specs.Steps.{due_line}

-- ---- the two lines in front

line_along : (r next : Reading) (text behind : List ℕ) → IsNextLine (rest_of r) text behind → next ≡ advanced r (length text + 1) → IsAlong r next
line_along r next text behind h e =
    let parts : length (rest_of r) ≡ length text + suc (length behind) = ap length h.parts ∙ length-append text (10 ∷ behind) in
    let left : length (rest_of r) ≡ length r.bytes - r.place = length-drop r.place r.bytes in
    let here : IsAlong r (advanced r (length text + 1)) = record { same = refl; further = omega arith; within = λ h. omega arith } in
    subst (IsAlong r) (sym e) here

line_or_not : (kind : FileKind) (r : Reading) (o : Option ℕ) → line_len (rest_of r) ≡ o
    → ((x : List ℕ) × (next : Reading) × (line kind).is r next x) ⊎ ((f : FileFault) × (line kind).isnt r f)
line_or_not kind r (Some n) e =
    let h = line_len-Some (rest_of r) n e in
    inl (take n (rest_of r), advanced r (length (take n (rest_of r)) + 1), (drop (suc n) (rest_of r), h, refl))
line_or_not kind r None e = inr (fault_at kind r.place, (line_len-None (rest_of r) e, refl))

decides-line : (kind : FileKind) → Decides (line kind) (due_line kind)
unfolding due_line
decides-line kind =
    decides-total (line kind) (due_line kind)
    (λ r next text h. (let here = line_at-next r text h.0 h.1 in let is = text_of-line r text h.0 h.1 in rw (here, is, h.2) refl))
    (λ r f h. (let none = line_at-none r h.0 in rw (none, h.1) refl))
    (λ r next text h. line_along r next text h.0 h.1 h.2)
    (λ r. line_or_not kind r (line_len (rest_of r)) refl)

decides-two_lines : Decides two_lines two_lines_at
unfolding two_lines_at
decides-two_lines =
    decides-follow (line Magic) _ (due_line Magic) _ (decides-line Magic) (λ first.
    decides-demand (is_magic first) Magic 0 _ _ (
    decides-follow (line Title) _ (due_line Title) _ (decides-line Title) (λ title. decides-gives (is_later (drop (length magic) first)))))

-- ---- words in front

pub decides-form : Decides form form_at
unfolding form_at
decides-form =
    decides-follow word _ due_word _ decides-word (λ w.
    decides-choose (same_word w.1 (codes "ASCII")) _ _ _ _ (decides-gives false)
    (decides-choose (same_word w.1 (codes "BINARY")) _ _ _ _ (decides-gives true) (decides-refuses (fault_at Form w.0))))

decides-dataset_word : (w : ℕ × List ℕ) → Decides (dataset_word w) (dataset_word_at w)
unfolding dataset_word_at
decides-dataset_word w =
    decides-choose (same_word w.1 (codes "STRUCTURED_POINTS")) _ _ _ _ (decides-gives Points)
    (decides-choose (same_word w.1 (codes "UNSTRUCTURED_GRID")) _ _ _ _ (decides-gives Grid)
    (decides-choose (same_word w.1 (codes "POLYDATA")) _ _ _ _ (decides-gives Polydata)
    (decides-choose (is_left_out_dataset w.1) _ _ _ _ (decides-refuses (fault_at Unsupported w.0)) (decides-refuses (fault_at (keyword_kind w.1) w.0)))))

pub decides-dataset : Decides dataset dataset_at
unfolding dataset_at
decides-dataset =
    decides-follow (keyword (codes "DATASET")) _ (keyword_at (codes "DATASET")) _ (decides-keyword (codes "DATASET")) (λ key.
    decides-follow word _ due_word _ decides-word (λ w. decides-dataset_word w))

pub decides-preamble : Decides preamble preamble_at
unfolding preamble_at
decides-preamble =
    decides-follow two_lines _ two_lines_at _ decides-two_lines (λ later.
    decides-follow form _ form_at _ decides-form (λ binary.
    decides-follow dataset _ dataset_at _ decides-dataset (λ points. decides-gives _)))

-- ---- the three lines

decides-size : Decides size size_at
unfolding size_at
decides-size =
    decides-follow number _ due_number _ decides-number (λ n.
    decides-demand (is_at_least 1 n.1) Count n.0 _ _ (decides-gives (n.0, unsigned_abs n.1)))

decides-sizes : Decides sizes sizes_at
unfolding sizes_at
decides-sizes =
    decides-follow size _ size_at _ decides-size (λ x.
    decides-follow size _ size_at _ decides-size (λ y.
    decides-follow size _ size_at _ decides-size (λ z.
    decides-demand (nat_lt (x.1 * y.1 * z.1) (2 ^ 31)) TooMany z.0 _ _ (decides-gives (whole_of x.1 y.1 z.1)))))

decides-origin : Decides origin origin_at
unfolding origin_at
decides-origin =
    decides-follow decimal _ due_decimal _ decides-decimal (λ x.
    decides-follow decimal _ due_decimal _ decides-decimal (λ y.
    decides-follow decimal _ due_decimal _ decides-decimal (λ z. decides-gives _)))

decides-step : Decides step step_at
unfolding step_at
decides-step =
    decides-follow decimal _ due_decimal _ decides-decimal (λ n.
    decides-demand (nat_le (unsigned_abs n.1) (10 ^ 18)) HeaderNumber n.0 _ _ (
    decides-demand (is_above n.1) Spacing n.0 _ _ (decides-gives n.1)))

decides-spacing : Decides spacing spacing_at
unfolding spacing_at
decides-spacing =
    decides-follow step _ step_at _ decides-step (λ x.
    decides-follow step _ step_at _ decides-step (λ y.
    decides-follow step _ step_at _ decides-step (λ z. decides-gives _)))

-- what stands behind the keyword of a header line
abbrev line_behind : Geometry → ℕ × List ℕ → Reading → Result (Line × Reading) FileFault
line_behind g key r =
    if same_word key.1 (codes "DIMENSIONS") && not (has g.whole) then (sizes_at r >>= λ v. Ok (Sizes v.0, v.1))
    else (if same_word key.1 (codes "ORIGIN") && not (has g.origin) then (origin_at r >>= λ v. Ok (Origin v.0, v.1))
    else (if (same_word key.1 (codes "SPACING") || same_word key.1 (codes "ASPECT_RATIO")) && not (has g.spacing) then (spacing_at r >>= λ v. Ok (Spacing_of v.0, v.1))
    else Err (fault_at (keyword_kind key.1) key.0)))

decides-behind : (g : Geometry) (key : ℕ × List ℕ) → Decides (behind g key) (line_behind g key)
decides-behind g key =
    decides-choose (same_word key.1 (codes "DIMENSIONS") && not (has g.whole)) _ _ _ _ (decides-follow sizes _ sizes_at _ decides-sizes (λ v. decides-gives (Sizes v)))
    (decides-choose (same_word key.1 (codes "ORIGIN") && not (has g.origin)) _ _ _ _ (decides-follow origin _ origin_at _ decides-origin (λ v. decides-gives (Origin v)))
    (decides-choose ((same_word key.1 (codes "SPACING") || same_word key.1 (codes "ASPECT_RATIO")) && not (has g.spacing)) _ _ _ _ (decides-follow spacing _ spacing_at _ decides-spacing (λ v. decides-gives (Spacing_of v)))
    (decides-refuses (fault_at (keyword_kind key.1) key.0))))

-- ---- FIELDs in front of a line

decides-one_field : (binary : Bool) → Decides (one_field binary) (one_field_at binary)
unfolding one_field_at
decides-one_field binary = decides-follow word _ due_word _ decides-word (λ key. decides-passed_field binary)

skips-fields : (binary : Bool) → Skips (is_next (codes "FIELD")) (one_field binary) (one_field_at binary)
skips-fields binary = record {
  decides = decides-one_field binary;
  onward = onward-follow (λ key. passed_field binary) (λ key. passed_field_at binary) (λ key. decides-passed_field binary);
  ends = is_next-ends (codes "FIELD");
}

-- as many steps as there are bytes, and one
abbrev all_fields_at : Bool → Reading → Result (Unit {0} × Reading) FileFault
all_fields_at binary r = fields_at binary (length r.bytes + 1) r

same_fields : (binary : Bool) (r : Reading) → all_fields_at binary r ≡ skip_at (is_next (codes "FIELD")) (one_field_at binary) (suc (length r.bytes)) r
unfolding fields_at
same_fields binary r = ap (λ n. skip_at (is_next (codes "FIELD")) (one_field_at binary) n r) (add-one (length r.bytes))

decides-fields : (binary : Bool) → Decides (skip (is_next (codes "FIELD")) (one_field binary)) (all_fields_at binary)
decides-fields binary =
    decides-same (skip (is_next (codes "FIELD")) (one_field binary)) (λ r. skip_at (is_next (codes "FIELD")) (one_field_at binary) (suc (length r.bytes)) r) (all_fields_at binary) (same_fields binary)
    (decides-skip (is_next (codes "FIELD")) (one_field binary) (one_field_at binary) (skips-fields binary))

-- a header line
abbrev one_line : Bool → Geometry → Reading → Result (Line × Reading) FileFault
one_line binary g r = all_fields_at binary r >>= λ fields. due_word fields.1 >>= λ key. line_behind g key.0 key.1

decides-header_line : (binary : Bool) (before : List Line) → Decides (header_line binary before) (one_line binary (geometry_of before))
decides-header_line binary before =
    decides-follow (skip (is_next (codes "FIELD")) (one_field binary)) _ (all_fields_at binary) _ (decides-fields binary) (λ fields.
    decides-follow word _ due_word _ decides-word (λ key. decides-behind (geometry_of before) key))

-- ---- what is known of the lines

abbrev Known : Type 0
Known = Result (Geometry × Reading) FileFault

-- with a line more
abbrev adding : Geometry → Line × Reading → Known
adding g x = Ok (with_line g x.0, x.1)

sizes_added : (g : Geometry) (o : Result (Bounds × Reading) FileFault) → (o >>= λ v. Ok (record g { whole = Some v.0 }, v.1)) ≡ ((o >>= λ v. Ok (Sizes v.0, v.1)) >>= adding g)
sizes_added g (Ok v) = refl
sizes_added g (Err f) = refl

origin_added : (g : Geometry) (o : Result (Vector × Reading) FileFault) → (o >>= λ v. Ok (record g { origin = Some v.0 }, v.1)) ≡ ((o >>= λ v. Ok (Origin v.0, v.1)) >>= adding g)
origin_added g (Ok v) = refl
origin_added g (Err f) = refl

spacing_added : (g : Geometry) (o : Result (Vector × Reading) FileFault) → (o >>= λ v. Ok (record g { spacing = Some v.0 }, v.1)) ≡ ((o >>= λ v. Ok (Spacing_of v.0, v.1)) >>= adding g)
spacing_added g (Ok v) = refl
spacing_added g (Err f) = refl

-- one of two, whose parts are the same
one_of : (g : Geometry) (b : Bool) (p q : Known) (a c : Result (Line × Reading) FileFault) → p ≡ (a >>= adding g) → q ≡ (c >>= adding g) → (if b then p else q) ≡ ((if b then a else c) >>= adding g)
one_of g true p q a c e f = e
one_of g false p q a c e f = f

behind_added : (g : Geometry) (key : ℕ × List ℕ) (r : Reading) → behind_at g key r ≡ (line_behind g key r >>= adding g)
unfolding behind_at
behind_added g key r =
    one_of g (same_word key.1 (codes "DIMENSIONS") && not (has g.whole)) _ _ _ _ (sizes_added g (sizes_at r))
    (one_of g (same_word key.1 (codes "ORIGIN") && not (has g.origin)) _ _ _ _ (origin_added g (origin_at r))
    (one_of g ((same_word key.1 (codes "SPACING") || same_word key.1 (codes "ASPECT_RATIO")) && not (has g.spacing)) _ _ _ _ (spacing_added g (spacing_at r)) refl))

key_added : (g : Geometry) (o : Result ((ℕ × List ℕ) × Reading) FileFault) → (o >>= λ key. behind_at g key.0 key.1) ≡ ((o >>= λ key. line_behind g key.0 key.1) >>= adding g)
key_added g (Ok key) = behind_added g key.0 key.1
key_added g (Err f) = refl

fields_added : (g : Geometry) (o : Result (Unit {0} × Reading) FileFault)
    → (o >>= λ fields. due_word fields.1 >>= λ key. behind_at g key.0 key.1) ≡ ((o >>= λ fields. due_word fields.1 >>= λ key. line_behind g key.0 key.1) >>= adding g)
fields_added g (Ok fields) = key_added g (due_word fields.1)
fields_added g (Err f) = refl

line_added : (binary : Bool) (g : Geometry) (r : Reading) → header_line_at binary g r ≡ (one_line binary g r >>= adding g)
unfolding header_line_at
line_added binary g r = fields_added g (all_fields_at binary r)

-- a line, and then the others
then_others : (g : Geometry) (others same : Geometry → Reading → Known) → ((g : Geometry) (r : Reading) → others g r ≡ same g r)
    → (o : Result (Line × Reading) FileFault) → ((o >>= adding g) >>= λ p. others p.0 p.1) ≡ (o >>= λ x. same (with_line g x.0) x.1)
then_others g others same h (Ok x) = h (with_line g x.0) x.1
then_others g others same h (Err f) = refl

two_more : (binary : Bool) (g : Geometry) (r : Reading) → (header_line_at binary g r >>= λ p. header_line_at binary p.0 p.1) ≡ folded_at with_line (one_line binary) 2 g r
two_more binary g r =
    ap (λ (o : Known). o >>= λ p. header_line_at binary p.0 p.1) (line_added binary g r)
    ∙ then_others g (header_line_at binary) (λ g r. folded_at with_line (one_line binary) 1 g r) (line_added binary) (one_line binary g r)

lines_folded : (binary : Bool) (r : Reading) → lines_at binary r ≡ folded_at with_line (one_line binary) 3 no_line r
unfolding lines_at
lines_folded binary r =
    ap (λ (o : Known). o >>= λ p. header_line_at binary p.0 p.1 >>= λ q. header_line_at binary q.0 q.1) (line_added binary no_line r)
    ∙ then_others no_line (λ g r. header_line_at binary g r >>= λ q. header_line_at binary q.0 q.1) (λ g r. folded_at with_line (one_line binary) 2 g r) (two_more binary) (one_line binary no_line r)

fold_snoc : (g : Geometry) (before : List Line) (x : Line) → fold with_line g (before ++ x ∷ []) ≡ with_line (fold with_line g before) x
fold_snoc g [] x = refl
fold_snoc g (y ∷ ys) x = fold_snoc (with_line g y) ys x

-- ---- the header

-- the three lines as a list
abbrev listed : Bool → Reading → Result (List Line × Reading) FileFault
listed binary r = known_at (λ before. one_line binary (geometry_of before)) 3 [] r

lines_listed : (binary : Bool) (r : Reading) → lines_at binary r ≡ as_state geometry_of (listed binary r)
lines_listed binary r = lines_folded binary r ∙ fold-known geometry_of with_line (one_line binary) (fold_snoc no_line) 3 [] r

-- the three lines, and the header that they make
abbrev made : Bool → Geometry × Reading → Result (Header × Reading) FileFault
made binary all = Ok (header_of binary all.0, all.1)

abbrev made_listed : Bool → List Line × Reading → Result (Header × Reading) FileFault
made_listed binary all = Ok (header_of binary (geometry_of all.0), all.1)

made_same : (binary : Bool) (o : Result (List Line × Reading) FileFault) → (as_state geometry_of o >>= made binary) ≡ (o >>= made_listed binary)
made_same binary (Ok all) = refl
made_same binary (Err f) = refl

pub decides-image_header : (binary : Bool) → Decides (image_header binary) (lines_header_at binary)
unfolding lines_header_at
decides-image_header binary =
    decides-same (image_header binary) (λ r. listed binary r >>= made_listed binary) (lines_header_at binary)
    (λ r. ap (λ (o : Known). o >>= made binary) (lines_listed binary r) ∙ made_same binary (listed binary r))
    (decides-follow (times_knowing 3 (header_line binary)) _ (listed binary) _
    (decides-times_knowing (header_line binary) (λ before. one_line binary (geometry_of before)) (decides-header_line binary) 3)
    (λ all. decides-gives (header_of binary (geometry_of all))))

decides-image_heading : (binary : Bool) → Decides (follow (image_header binary) (λ h. gives (OfImage h))) (image_heading_at binary)
unfolding image_heading_at
decides-image_heading binary = decides-follow (image_header binary) _ (lines_header_at binary) _ (decides-image_header binary) (λ h. decides-gives (OfImage h))

decides-behind_preamble : (p : Preamble) → Decides (behind_preamble p) (behind_preamble_at p)
unfolding behind_preamble_at
decides-behind_preamble p = decides-choose (is_image p) _ _ _ _ (decides-image_heading p.binary) (decides-gives (OfMesh p))

pub decides-header : Decides header header_at
unfolding header_at
decides-header = decides-follow preamble _ preamble_at _ decides-preamble (λ p. decides-behind_preamble p)
