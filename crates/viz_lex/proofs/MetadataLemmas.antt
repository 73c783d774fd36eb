-- The lines of METADATA: what is passed over ends at the first empty line, and nowhere else.
use Rattle.std.proofs.Common.{◌≡◌, ◌≢◌, ◌⊎◌, ℕ, zero, suc, ◌+◌, ◌<◌, eqb, true, false, List, [], ◌∷◌, ◌++◌, length, take, drop, All, Some, Ok, refl, sym, ap, subst, ◌∙◌, inl, inr, arith, append_assoc, length-append}
use Rattle.std.specs.Prelude.{nat_lt, ◌&&◌}
use Rattle.std.proofs.lemmas.Bool.{cases_Bool, ne_eqb, eqb-true, eqb-false, lt-ltb, and_parts, and_right}
use Rattle.std.proofs.lemmas.List.{drop-drop, length-take, length-drop}
use Rattle.std.proofs.lemmas.List.Elements.{All-nil, All-cons, All-head, All-tail}
use Rattle.viz_lex.specs.Reading.{Reading, rest_of, advanced}
use Rattle.viz_lex.specs.Words.{line_len, HasNoNewline}
use Rattle.viz_lex.specs.Passing.{newline_first, empty_line, metadata_len, metadata_at, lines_text, IsEmptyLine, IsFullLine, EndsEmpty, NoneEmpty, RunsOut, IsBehindMetadata}
use Rattle.viz_lex.proofs.ReadingLemmas.{done, done_is}
use Rattle.viz_lex.proofs.LineLemmas.{HasNoNewline-nil, HasNoNewline-cons, HasNoNewline-head, HasNoNewline-tail, line_len-Some}

-- ---- line by line

pub metadata_len-none : (text : List ℕ) → HasNoNewline text → metadata_len text ≡ length text
metadata_len-none [] h = refl
metadata_len-none (b ∷ bs) h =
    rw (ne_eqb b 10 (HasNoNewline-head b bs h)) (ap suc (metadata_len-none bs (HasNoNewline-tail b bs h)))

-- no empty line follows the newline
metadata_len-later : (line later : List ℕ) → HasNoNewline line → empty_line later ≡ 0 → metadata_len (line ++ 10 ∷ later) ≡ suc (length line) + metadata_len later
metadata_len-later [] later one none = rw none (omega arith)
metadata_len-later (b ∷ bs) later one none =
    let rest = metadata_len-later bs later (HasNoNewline-tail b bs one) none in
    rw (ne_eqb b 10 (HasNoNewline-head b bs one)) (omega (arith, rest))

-- an empty line follows the newline
metadata_len-here : (line later : List ℕ) → HasNoNewline line → 0 < empty_line later → metadata_len (line ++ 10 ∷ later) ≡ suc (length line) + empty_line later
metadata_len-here [] later one some = rw (lt-ltb 0 (empty_line later) some) (omega arith)
metadata_len-here (b ∷ bs) later one some =
    let rest = metadata_len-here bs later (HasNoNewline-tail b bs one) some in
    rw (ne_eqb b 10 (HasNoNewline-head b bs one)) (omega (arith, rest))

-- ---- empty lines

empty_line-empty : (empty behind : List ℕ) → IsEmptyLine empty → empty_line (empty ++ 10 ∷ behind) ≡ length empty + 1
empty_line-empty empty behind h = elim h [ inl e ↦ rw e refl | inr e ↦ rw e refl ]

empty_line-none : (b : ℕ) (bs : List ℕ) → b ≢ 10 → (b ≡ 13 → newline_first bs ≡ false) → empty_line (b ∷ bs) ≡ 0
empty_line-none b bs ne more =
    elim (cases_Bool (eqb b 13)) [
      | inl return ↦ rw (ne_eqb b 10 ne, return, more (eqb-true b 13 return)) refl
      | inr other ↦ rw (ne_eqb b 10 ne, other) refl
    ]

newline_first-none : (text : List ℕ) → HasNoNewline text → newline_first text ≡ false
newline_first-none [] h = refl
newline_first-none (b ∷ bs) h = ne_eqb b 10 (HasNoNewline-head b bs h)

empty_line-last : (last : List ℕ) → HasNoNewline last → empty_line last ≡ 0
empty_line-last [] h = refl
empty_line-last (b ∷ bs) h =
    empty_line-none b bs (HasNoNewline-head b bs h) (λ _. newline_first-none bs (HasNoNewline-tail b bs h))

empty_line-full : (line behind : List ℕ) → IsFullLine line → empty_line (line ++ 10 ∷ behind) ≡ 0
empty_line-full [] behind h = absurd (h.some refl)
empty_line-full (b ∷ []) behind h =
    empty_line-none b (10 ∷ behind) (HasNoNewline-head b [] h.one) (λ e. absurd (h.more (ap (λ k. k ∷ []) e)))
empty_line-full (b ∷ c ∷ cs) behind h =
    empty_line-none b ((c ∷ cs) ++ 10 ∷ behind) (HasNoNewline-head b (c ∷ cs) h.one)
    (λ _. ne_eqb c 10 (HasNoNewline-head c cs (HasNoNewline-tail b (c ∷ cs) h.one)))

-- a line behind which no empty line was counted is none
IsFullLine-none : (line behind : List ℕ) → HasNoNewline line → empty_line (line ++ 10 ∷ behind) ≡ 0 → IsFullLine line
IsFullLine-none line behind one none = record {
  one = one;
  some = λ e. let bad : 1 ≡ 0 = rw e at none in cc;
  more = λ e. let bad : 2 ≡ 0 = rw e at none in cc;
}

-- ---- what is spelled so is passed over

over_empty : (rest : List ℕ) (lines : List (List ℕ)) (empty behind : List ℕ) → HasNoNewline rest → All IsFullLine lines → IsEmptyLine empty → metadata_len (lines_text (rest ∷ lines) ++ (empty ++ 10 ∷ behind)) ≡ length (lines_text (rest ∷ lines)) + (length empty + 1)
over_empty rest [] empty behind one full is_empty =
    let tail = empty ++ 10 ∷ behind in
    let size = empty_line-empty empty behind is_empty in
    ap metadata_len (append_assoc rest (10 ∷ []) tail) ∙ metadata_len-here rest tail one (omega (arith, size))
    ∙ omega (arith, size, length-append rest (10 ∷ []))
over_empty rest (line ∷ lines) empty behind one full is_empty =
    let tail = empty ++ 10 ∷ behind in
    let later = lines_text (line ∷ lines) ++ tail in
    let first = All-head IsFullLine line lines full in
    let none : empty_line later ≡ 0 = ap empty_line (append_assoc line (10 ∷ lines_text lines) tail) ∙ empty_line-full line (lines_text lines ++ tail) first in
    let rest_is = over_empty line lines empty behind first.one (All-tail IsFullLine line lines full) is_empty in
    ap metadata_len (append_assoc rest (10 ∷ lines_text (line ∷ lines)) tail) ∙ metadata_len-later rest later one none
    ∙ omega (arith, rest_is, length-append rest (10 ∷ lines_text (line ∷ lines)))

over_all : (lines : List (List ℕ)) (last : List ℕ) → NoneEmpty lines last → metadata_len (lines_text lines ++ last) ≡ length (lines_text lines ++ last)
over_all [] last h = metadata_len-none last h
over_all (rest ∷ []) last h =
    let parts = append_assoc rest (10 ∷ []) last in
    ap metadata_len parts ∙ metadata_len-later rest last h.0 (empty_line-last last h.2)
    ∙ omega (arith, metadata_len-none last h.2, ap length parts, length-append rest (10 ∷ last))
over_all (rest ∷ line ∷ lines) last h =
    let later = lines_text (line ∷ lines) ++ last in
    let first = All-head IsFullLine line lines h.1 in
    let parts = append_assoc rest (10 ∷ lines_text (line ∷ lines)) last in
    let none : empty_line later ≡ 0 = ap empty_line (append_assoc line (10 ∷ lines_text lines) last) ∙ empty_line-full line (lines_text lines ++ last) first in
    let rest_is = over_all (line ∷ lines) last (first.one, All-tail IsFullLine line lines h.1, h.2) in
    ap metadata_len parts ∙ metadata_len-later rest later h.0 none
    ∙ omega (arith, rest_is, ap length parts, length-append rest (10 ∷ later))

-- ---- what is passed over is spelled so

RunsOut-byte : (b : ℕ) (bs : List ℕ) → b ≢ 10 → (lines : List (List ℕ)) (last : List ℕ) → bs ≡ lines_text lines ++ last → NoneEmpty lines last → RunsOut (b ∷ bs)
RunsOut-byte b bs ne [] last parts h = ([], b ∷ last, ap (λ t. b ∷ t) parts, HasNoNewline-cons b last ne h)
RunsOut-byte b bs ne (line ∷ lines) last parts h =
    ((b ∷ line) ∷ lines, last, ap (λ t. b ∷ t) parts, (HasNoNewline-cons b line ne h.0, h.1, h.2))

ends_byte : (b : ℕ) (bs behind : List ℕ) → b ≢ 10 → IsBehindMetadata bs behind → IsBehindMetadata (b ∷ bs) behind
ends_byte b bs behind ne h =
    elim h [
      | inl e ↦ inl (
        b ∷ e.0,
        e.1,
        e.2,
        record {
          parts = ap (λ t. b ∷ t) e.3.parts;
          one = HasNoNewline-cons b e.0 ne e.3.one;
          full = e.3.full;
          is_empty = e.3.is_empty;
        },
      )
      | inr e ↦ inr (RunsOut-byte b bs ne e.0.0 e.0.1 e.0.2 e.0.3, e.1)
    ]

RunsOut-newline : (bs : List ℕ) → empty_line bs ≡ 0 → (lines : List (List ℕ)) (last : List ℕ) → bs ≡ lines_text lines ++ last → NoneEmpty lines last → RunsOut (10 ∷ bs)
RunsOut-newline bs none [] last parts h =
    ([] ∷ [], last, ap (λ t. 10 ∷ t) parts, (HasNoNewline-nil, All-nil IsFullLine, h))
RunsOut-newline bs none (line ∷ lines) last parts h =
    let first : empty_line (line ++ 10 ∷ (lines_text lines ++ last)) ≡ 0 = sym (ap empty_line (parts ∙ append_assoc line (10 ∷ lines_text lines) last)) ∙ none in (
      [] ∷ line ∷ lines,
      last,
      ap (λ t. 10 ∷ t) parts,
      (HasNoNewline-nil, All-cons IsFullLine line lines (IsFullLine-none line _ h.0 first) h.1, h.2),
    )

ends_newline : (bs behind : List ℕ) → empty_line bs ≡ 0 → IsBehindMetadata bs behind → IsBehindMetadata (10 ∷ bs) behind
ends_newline bs behind none h =
    elim h [
      | inl e ↦
          let tail = e.2 ++ 10 ∷ behind in
          let first : empty_line (e.0 ++ 10 ∷ (lines_text e.1 ++ tail)) ≡ 0 = sym (ap empty_line (e.3.parts ∙ append_assoc e.0 (10 ∷ lines_text e.1) tail)) ∙ none in
          inl (
            [],
            e.0 ∷ e.1,
            e.2,
            record {
              parts = ap (λ t. 10 ∷ t) e.3.parts;
              one = HasNoNewline-nil;
              full = All-cons IsFullLine e.0 e.1 (IsFullLine-none e.0 _ e.3.one first) e.3.full;
              is_empty = e.3.is_empty;
            },
          )
      | inr e ↦ inr (RunsOut-newline bs none e.0.0 e.0.1 e.0.2 e.0.3, e.1)
    ]

newline_is : (text : List ℕ) → newline_first text ≡ true → (behind : List ℕ) × (text ≡ 10 ∷ behind)
newline_is [] h = absurd cc
newline_is (b ∷ bs) h = (bs, ap (λ k. k ∷ bs) (eqb-true b 10 h))

ends_at : (bs empty behind : List ℕ) → bs ≡ empty ++ 10 ∷ behind → IsEmptyLine empty → IsBehindMetadata (10 ∷ bs) behind
ends_at bs empty behind parts is_empty =
    inl ([], [], empty, record { parts = ap (λ t. 10 ∷ t) parts; one = HasNoNewline-nil; full = All-nil IsFullLine; is_empty = is_empty })

ends_here : (bs : List ℕ) → 0 < empty_line bs → IsBehindMetadata (10 ∷ bs) (drop (empty_line bs) bs)
ends_here [] some = absurd (omega arith)
ends_here (b ∷ bs) some =
    elim (cases_Bool (eqb b 10)) [
      | inl newline ↦ rw newline (ends_at (b ∷ bs) [] bs (ap (λ k. k ∷ bs) (eqb-true b 10 newline)) (inl refl))
      | inr other ↦
          elim (cases_Bool (eqb b 13 && newline_first bs)) [
            | inl both ↦
                let parts = and_parts _ _ both in
                let behind = newline_is bs parts.1 in
                rw (other, both)
                (ends_at (b ∷ bs) (13 ∷ []) (drop 1 bs) (ap (λ k. k ∷ bs) (eqb-true b 13 parts.0) ∙ ap (λ t. 13 ∷ t) (behind.1 ∙ ap (λ t. 10 ∷ t) (sym (ap (drop 1) behind.1)))) (inr refl))
            | inr none ↦ absurd (let no : 0 < 0 = rw (other, none) at some in omega arith)
          ]
    ]

metadata_len-byte : (b : ℕ) (bs : List ℕ) → (eqb b 10 && nat_lt 0 (empty_line bs)) ≡ false → metadata_len (b ∷ bs) ≡ suc (metadata_len bs)
metadata_len-byte b bs e = rw e refl

none_or : (n : ℕ) → (n ≡ 0) ⊎ (0 < n)
none_or zero = inl refl
none_or (suc n) = inr (omega arith)

pub metadata_ends : (text : List ℕ) → IsBehindMetadata text (drop (metadata_len text) text)
metadata_ends [] = inr (([], [], refl, HasNoNewline-nil), refl)
metadata_ends (b ∷ bs) =
    let more : (eqb b 10 && nat_lt 0 (empty_line bs)) ≡ false → IsBehindMetadata (b ∷ bs) (drop (metadata_len bs) bs) → IsBehindMetadata (b ∷ bs) (drop (metadata_len (b ∷ bs)) (b ∷ bs)) = λ e h. rw e h in
    elim (cases_Bool (eqb b 10)) [
      | inl newline ↦
          let here = eqb-true b 10 newline in
          elim (none_or (empty_line bs)) [
            | inl none ↦
                more (rw none (and_right _ _ refl)) (subst (λ k. IsBehindMetadata (k ∷ bs) (drop (metadata_len bs) bs)) (sym here) (ends_newline bs _ none (metadata_ends bs)))
            | inr some ↦
                rw (newline, lt-ltb 0 (empty_line bs) some) (subst (λ k. IsBehindMetadata (k ∷ bs) (drop (empty_line bs) bs)) (sym here) (ends_here bs some))
          ]
      | inr other ↦ more (rw other refl) (ends_byte b bs _ (eqb-false b 10 other) (metadata_ends bs))
    ]

-- ---- `metadata_at`

pub metadata_at-empty : (r : Reading) (rest : List ℕ) (lines : List (List ℕ)) (empty behind : List ℕ) → EndsEmpty (rest_of r) rest lines empty behind → metadata_at r ≡ Ok (tt, advanced r (length (lines_text (rest ∷ lines)) + (length empty + 1)))
unfolding metadata_at
metadata_at-empty r rest lines empty behind h =
    ap (λ (n : ℕ). done (tt {0}, advanced r n)) (ap metadata_len h.parts ∙ over_empty rest lines empty behind h.one h.full h.is_empty)

pub metadata_at-all : (r : Reading) → RunsOut (rest_of r) → metadata_at r ≡ Ok (tt, advanced r (length (rest_of r)))
unfolding metadata_at
metadata_at-all r h =
    ap (λ (n : ℕ). done (tt {0}, advanced r n)) (ap metadata_len h.2 ∙ over_all h.0 h.1 h.3 ∙ sym (ap length h.2))

pub metadata_at-Ok : (r next : Reading) → metadata_at r ≡ Ok (tt, next) → IsBehindMetadata (rest_of r) (rest_of next)
unfolding metadata_at
metadata_at-Ok r next e =
    let n = metadata_len (rest_of r) in
    let same : advanced r n ≡ next = ap (λ (p : Unit {0} × Reading). p.1) (done_is _ _ e) in
    subst (λ (x : Reading). IsBehindMetadata (rest_of r) (rest_of x)) same
    (subst (IsBehindMetadata (rest_of r)) (drop-drop n r.place r.bytes) (metadata_ends (rest_of r)))

-- ---- the loop over lines

line_size : (text : List ℕ) (n : ℕ) → line_len text ≡ Some n → length (take n text) ≡ n
line_size text n e =
    let line = line_len-Some text n e in
    omega (arith, simp length-append at (ap length line.parts), length-take n text, length-drop (suc n) text)

metadata_len-empty : (text : List ℕ) (n : ℕ) → line_len text ≡ Some n → 0 < empty_line (drop (suc n) text) → metadata_len text ≡ suc n + empty_line (drop (suc n) text)
metadata_len-empty text n e some =
    let line = line_len-Some text n e in
    ap metadata_len line.parts ∙ metadata_len-here (take n text) (drop (suc n) text) line.one some ∙ ap (λ m. suc m + empty_line (drop (suc n) text)) (line_size text n e)

metadata_len-full : (text : List ℕ) (n : ℕ) → line_len text ≡ Some n → empty_line (drop (suc n) text) ≡ 0 → metadata_len text ≡ suc n + metadata_len (drop (suc n) text)
metadata_len-full text n e none =
    let line = line_len-Some text n e in
    ap metadata_len line.parts ∙ metadata_len-later (take n text) (drop (suc n) text) line.one none ∙ ap (λ m. suc m + metadata_len (drop (suc n) text)) (line_size text n e)

drop_line : (text : List ℕ) (at n : ℕ) → drop (suc n) (drop at text) ≡ drop (at + (n + 1)) text
drop_line text at n = let sum : at + suc n ≡ at + (n + 1) = omega arith in drop-drop (suc n) at text ∙ ap (λ k. drop k text) sum

-- an empty line follows the next newline
pub metadata_line_empty : (text : List ℕ) (at n : ℕ) → line_len (drop at text) ≡ Some n → 0 < empty_line (drop (at + (n + 1)) text) → metadata_len (drop at text) ≡ n + 1 + empty_line (drop (at + (n + 1)) text)
metadata_line_empty text at n e some =
    let P : List ℕ → Type 0 = λ t. 0 < empty_line t → metadata_len (drop at text) ≡ suc n + empty_line t in
    let same = subst P (drop_line text at n) (metadata_len-empty (drop at text) n e) some in
    omega (arith, same)

-- none follows it
pub metadata_line_full : (text : List ℕ) (at n : ℕ) → line_len (drop at text) ≡ Some n → empty_line (drop (at + (n + 1)) text) ≡ 0 → metadata_len (drop at text) ≡ n + 1 + metadata_len (drop (at + (n + 1)) text)
metadata_line_full text at n e none =
    let P : List ℕ → Type 0 = λ t. empty_line t ≡ 0 → metadata_len (drop at text) ≡ suc n + metadata_len t in
    let same = subst P (drop_line text at n) (metadata_len-full (drop at text) n e) none in
    omega (arith, same)
