-- The end of a line, blocks, words by their number and METADATA: their readers decide their rules.
use Rattle.std.proofs.Common.{◌≡◌, ◌⊎◌, ℕ, zero, suc, ◌+◌, ◌-◌, ◌≤◌, true, false, List, [], ◌∷◌, ◌++◌, length, length-append, length-drop, drop, take, Option, Some, None, Result, Ok, Err, refl, sym, ap, subst, ◌∙◌, inl, inr, arith}
use Rattle.std.specs.Prelude.{ok_or, codes, nat_le}
use Rattle.std.proofs.lemmas.Bool.{cases_Bool, true≢false}
use Rattle.std.proofs.lemmas.List.{take_at, take-append-drop, length-take-le}
use Rattle.std.proofs.lemmas.List.Elements.{All-nil, All-cons}
use Rattle.std.proofs.Common.{eqb, eqb-true, eq-eqb}
use Rattle.std.proofs.lemmas.Bool.{leb-true, leb-false, le-leb, lt-leb}
use Rattle.viz_lex.specs.declared.fault.FileFault.{FileFault}
use Rattle.viz_lex.specs.declared.fault.FileKind.TheVariants.{Keyword, Truncated}
use Rattle.viz_lex.specs.declared.span.Span.{Span}
use Rattle.viz_lex.specs.Reading.{Reading, rest_of, advanced, fault_at, ◌>>=◌}
use Rattle.viz_lex.specs.Words.{word_at, text_of, is_filler, line_end_at, IsFiller}
use Rattle.viz_lex.specs.Blocks.{block_at}
use Rattle.viz_lex.specs.Passing.{words_at, metadata_at, metadata_len, lines_text}
use Rattle.viz_lex.specs.Steps.{due_word, is_next}
use Rattle.viz_lex.specs.Rules.{Rule, IsAlong, gives, follow, Decides}
use Rattle.viz_lex.specs.Repeats.{times}
use Rattle.viz_lex.specs.Items.{word, words, line_end, block, metadata_lines, metadata}
use Rattle.viz_lex.specs.Readers.{times_at, bytes_at, any_metadata_at}
use Rattle.viz_lex.proofs.ReadingLemmas.{done, failed, done_is, fault_is}
use Rattle.viz_lex.proofs.LineLemmas.{line_end_at-next, line_end_at-other, line_end_at-filler}
use Rattle.viz_lex.proofs.MetadataLemmas.{metadata_at-empty, metadata_at-all, metadata_ends}
use Rattle.viz_lex.proofs.RuleLemmas.{decides-gives, decides-follow, decides-times, decides-beside}
use Rattle.viz_lex.proofs.ItemLemmas.{decides-word}

-- so many bytes further on, where so many are left
along-advanced : (r : Reading) (n : ℕ) → n ≤ length (rest_of r) → IsAlong r (advanced r n)
along-advanced r n few =
    let left : length (rest_of r) ≡ length r.bytes - r.place = length-drop r.place r.bytes in
    record { same = refl; further = omega arith; within = λ h. omega arith }

along-moved : (r next : Reading) (n : ℕ) → next ≡ advanced r n → n ≤ length (rest_of r) → IsAlong r next
along-moved r next n e few = subst (IsAlong r) (sym e) (along-advanced r n few)

-- ---- what serves all of them

-- where a reader gives what stands there and the fault that is met, and one of both is there, it decides
pub decides-total : {V : Type 0} (rule : Rule V) (read : Reading → Result (V × Reading) FileFault)
    → ((r next : Reading) (x : V) → rule.is r next x → read r ≡ Ok (x, next))
    → ((r : Reading) (f : FileFault) → rule.isnt r f → read r ≡ Err f)
    → ((r next : Reading) (x : V) → rule.is r next x → IsAlong r next)
    → ((r : Reading) → ((x : V) × (next : Reading) × rule.is r next x) ⊎ ((f : FileFault) × rule.isnt r f))
    → Decides rule read
decides-total {V = V} rule read only only_stops along total = record {
  found = λ r x e.
      elim (total r) [
        | inl here ↦
            let same : (here.0, here.1) ≡ x = done_is (here.0, here.1) x (sym (only r here.1 here.0 here.2) ∙ e) in
            subst (λ (y : V × Reading). rule.is r y.1 y.0) same here.2
        | inr fault ↦ absurd (let no : failed {A = V × Reading} fault.0 ≡ Ok x = sym (only_stops r fault.0 fault.1) ∙ e in cc)
      ];
  only = only;
  stops = λ r f e.
      elim (total r) [
        | inl here ↦ absurd (let no : done {A = V × Reading} (here.0, here.1) ≡ Err f = sym (only r here.1 here.0 here.2) ∙ e in cc)
        | inr fault ↦
            let same : fault.0 ≡ f = fault_is {A = V × Reading} fault.0 f (sym (only_stops r fault.0 fault.1) ∙ e) in
            subst (λ (g : FileFault). rule.isnt r g) same fault.1
      ];
  only_stops = only_stops;
  along = along;
}

-- a reader that gives the same decides the same
pub decides-same : {V : Type 0} (rule : Rule V) (read other : Reading → Result (V × Reading) FileFault)
    → ((r : Reading) → other r ≡ read r) → Decides rule read → Decides rule other
decides-same rule read other same d = record {
  found = λ r x e. d.found r x (sym (same r) ∙ e);
  only = λ r next x h. same r ∙ d.only r next x h;
  stops = λ r f e. d.stops r f (sym (same r) ∙ e);
  only_stops = λ r f h. same r ∙ d.only_stops r f h;
  along = d.along;
}

-- ---- the end of a line

IsFiller-nil : IsFiller []
IsFiller-nil = record { each = All-nil (λ b. is_filler b ≡ true) }

-- all is filler, or a byte that is none stands behind some
filler_or : (text : List ℕ) → IsFiller text ⊎ ((filler : List ℕ) × (b : ℕ) × (behind : List ℕ) × (text ≡ filler ++ b ∷ behind) × IsFiller filler × (is_filler b ≡ false))
filler_or [] = inl IsFiller-nil
filler_or (b ∷ bs) =
    elim (cases_Bool (is_filler b)) [
      | inr other ↦ inr ([], b, bs, refl, IsFiller-nil, other)
      | inl same ↦
          elim (filler_or bs) [
            | inl all ↦ inl (record { each = All-cons (λ b. is_filler b ≡ true) b bs same all.each })
            | inr h ↦ inr (b ∷ h.0, h.1, h.2, ap (λ (t : List ℕ). b ∷ t) h.3, record { each = All-cons (λ b. is_filler b ≡ true) b h.0 same h.4.each }, h.5)
          ]
    ]

line_end_total : (r : Reading) → ((x : Unit {0}) × (next : Reading) × line_end.is r next x) ⊎ ((f : FileFault) × line_end.isnt r f)
line_end_total r =
    elim (filler_or (rest_of r)) [
      | inl all ↦ inr (fault_at Truncated (length r.bytes), inl (all, refl))
      | inr h ↦
          elim (cases_Bool (eqb h.1 10)) [
            | inl here ↦
                let newline : h.1 ≡ 10 = eqb-true _ _ here in
                let parts : rest_of r ≡ h.0 ++ 10 ∷ h.2 = h.3 ∙ ap (λ (b : ℕ). h.0 ++ b ∷ h.2) newline in
                inl (tt, advanced r (length h.0 + 1), (h.0, h.2, record { parts = parts; is_filler = h.4 }, refl))
            | inr other ↦ inr (fault_at Keyword (r.place + length h.0), inr (h.0, h.1, h.2, h.3, h.4, h.5, (λ e. true≢false (sym (eq-eqb h.1 10 e) ∙ other)), refl))
          ]
    ]

line_end_along : (r next : Reading) (x : Unit {0}) → line_end.is r next x → IsAlong r next
line_end_along r next x h =
    let parts : length (rest_of r) ≡ length h.0 + suc (length h.1) = ap length h.2.parts ∙ length-append h.0 (10 ∷ h.1) in
    along-moved r next (length h.0 + 1) h.3 (omega arith)

pub decides-line_end : Decides line_end line_end_at
decides-line_end =
    decides-total line_end line_end_at
    (λ r next x h. line_end_at-next r h.0 h.1 h.2 ∙ ap (λ (s : Reading). done (tt {0}, s)) (sym h.3))
    (λ r f h.
    elim h [
      | inl all ↦ line_end_at-filler r all.0 ∙ ap (λ (g : FileFault). failed {A = Unit {0} × Reading} g) (sym all.1)
      | inr w ↦ line_end_at-other r w.0 w.2 w.1 w.3 w.4 w.5 w.6 ∙ ap (λ (g : FileFault). failed {A = Unit {0} × Reading} g) (sym w.7)
    ])
    line_end_along line_end_total

-- ---- a block

block_total : (n : ℕ) (r : Reading) → ((bytes : List ℕ) × (next : Reading) × (block n).is r next bytes) ⊎ ((f : FileFault) × (block n).isnt r f)
block_total n r =
    elim (cases_Bool (nat_le n (length (rest_of r)))) [
      | inl test ↦
          let few = leb-true n (length (rest_of r)) test in
          inl (take n (rest_of r), advanced r n, (drop n (rest_of r), sym (take-append-drop n (rest_of r)), length-take-le n (rest_of r) few, refl))
      | inr test ↦ inr (fault_at Truncated (length r.bytes), (leb-false n (length (rest_of r)) test, refl))
    ]

block_only : (n : ℕ) (r next : Reading) (bytes : List ℕ) → (block n).is r next bytes → bytes_at n r ≡ Ok (bytes, next)
unfolding bytes_at block_at
block_only n r next bytes h =
    let long : length (rest_of r) ≡ length bytes + length h.0 = ap length h.1 ∙ length-append bytes h.0 in
    let few : n ≤ length (rest_of r) = (let k = h.2 in omega arith) in
    let test : nat_le n (length (rest_of r)) ≡ true = le-leb n (length (rest_of r)) few in
    let same : r.place + n - r.place ≡ n = omega arith in
    let text : take n (rest_of r) ≡ bytes = ap (take n) h.1 ∙ take_at bytes h.0 n (h.2) in
    rw (test, same, text, h.3) refl

block_only_stops : (n : ℕ) (r : Reading) (f : FileFault) → (block n).isnt r f → bytes_at n r ≡ Err f
unfolding bytes_at block_at
block_only_stops n r f h =
    let test : nat_le n (length (rest_of r)) ≡ false = lt-leb n (length (rest_of r)) h.0 in
    rw (test, h.1) refl

block_along : (n : ℕ) (r next : Reading) (bytes : List ℕ) → (block n).is r next bytes → IsAlong r next
block_along n r next bytes h =
    let long : length (rest_of r) ≡ length bytes + length h.0 = ap length h.1 ∙ length-append bytes h.0 in
    along-moved r next n h.3 (let k = h.2 in omega arith)

pub decides-block : (n : ℕ) → Decides (block n) (bytes_at n)
decides-block n = decides-total (block n) (bytes_at n) (block_only n) (block_only_stops n) (block_along n) (block_total n)

-- ---- words by their number

-- the place behind words, and no more of them
abbrev behind : List (ℕ × List ℕ) × Reading → Result (Unit {0} × Reading) FileFault
behind x = Ok (tt, x.1)

-- one word more
abbrev with_word : ℕ × List ℕ → List (ℕ × List ℕ) × Reading → Result (List (ℕ × List ℕ) × Reading) FileFault
with_word w xs = Ok (w ∷ xs.0, xs.1)

-- the word of a span
abbrev word_of : Reading → Span × Reading → Result ((ℕ × List ℕ) × Reading) FileFault
word_of r found = Ok ((found.0.start, text_of r found.0), found.1)

after_words : (w : ℕ × List ℕ) (read : Result (List (ℕ × List ℕ) × Reading) FileFault) → (read >>= behind) ≡ ((read >>= with_word w) >>= behind)
after_words w (Ok x) = refl
after_words w (Err f) = refl

words_step : (n : ℕ) (r : Reading) (o : Option (Span × Reading)) → ((s : Reading) → words_at n s ≡ (times_at due_word n s >>= behind))
    → (ok_or o (fault_at Truncated (length r.bytes)) >>= λ found. words_at n found.1)
    ≡ (((ok_or o (fault_at Truncated (length r.bytes)) >>= word_of r) >>= λ x. times_at due_word n x.1 >>= with_word x.0) >>= behind)
words_step n r None later = refl
words_step n r (Some s) later = later s.1 ∙ after_words (s.0.start, text_of r s.0) (times_at due_word n s.1)

words_at-times : (n : ℕ) (r : Reading) → words_at n r ≡ (times_at due_word n r >>= behind)
unfolding words_at due_word
words_at-times zero r = refl
words_at-times (suc n) r = words_step n r (word_at r) (words_at-times n)

pub decides-words : (n : ℕ) → Decides (words n) (words_at n)
decides-words n =
    decides-same (words n) (λ r. times_at due_word n r >>= behind) (words_at n) (words_at-times n)
    (decides-follow (times n word) (λ ws. gives tt) (times_at due_word n) (λ ws r. Ok (tt, r)) (decides-times word due_word decides-word n) (λ ws. decides-gives tt))

-- ---- METADATA

lines_only : (r next : Reading) (x : Unit {0}) → metadata_lines.is r next x → metadata_at r ≡ Ok (x, next)
lines_only r next x h =
    elim h [
      | inl e ↦ metadata_at-empty r e.0 e.1 e.2 e.3 e.4 ∙ ap (λ (s : Reading). done (tt {0}, s)) (sym e.5)
      | inr a ↦ metadata_at-all r a.0 ∙ ap (λ (s : Reading). done (tt {0}, s)) (sym a.1)
    ]

lines_total : (r : Reading) → ((x : Unit {0}) × (next : Reading) × metadata_lines.is r next x) ⊎ ((f : FileFault) × metadata_lines.isnt r f)
lines_total r =
    elim (metadata_ends (rest_of r)) [
      | inl e ↦ inl (tt, advanced r (length (lines_text (e.0 ∷ e.1)) + (length e.2 + 1)), inl (e.0, e.1, e.2, drop (metadata_len (rest_of r)) (rest_of r), e.3, refl))
      | inr a ↦ inl (tt, advanced r (length (rest_of r)), inr (a.0, refl))
    ]

lines_along : (r next : Reading) (x : Unit {0}) → metadata_lines.is r next x → IsAlong r next
lines_along r next x h =
    elim h [
      | inl e ↦
          let long : length (rest_of r) ≡ length (lines_text (e.0 ∷ e.1)) + (length e.2 + suc (length e.3)) = ap length e.4.parts ∙ length-append (lines_text (e.0 ∷ e.1)) (e.2 ++ 10 ∷ e.3) ∙ ap (λ n. length (lines_text (e.0 ∷ e.1)) + n) (length-append e.2 (10 ∷ e.3)) in
          along-moved r next (length (lines_text (e.0 ∷ e.1)) + (length e.2 + 1)) e.5 (omega arith)
      | inr a ↦ along-moved r next (length (rest_of r)) a.1 (omega arith)
    ]

pub decides-metadata_lines : Decides metadata_lines metadata_at
decides-metadata_lines = decides-total metadata_lines metadata_at lines_only (λ r f h. absurd h) lines_along lines_total

pub decides-metadata : Decides metadata any_metadata_at
unfolding any_metadata_at
decides-metadata =
    decides-beside (is_next (codes "METADATA")) (follow word (λ w. metadata_lines)) (gives tt) (λ r. due_word r >>= λ w. metadata_at w.1) (λ r. Ok (tt, r))
    (decides-follow word (λ w. metadata_lines) due_word (λ w. metadata_at) decides-word (λ w. decides-metadata_lines))
    (decides-gives tt)
