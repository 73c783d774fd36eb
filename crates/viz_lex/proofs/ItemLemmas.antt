-- Words, numbers and keywords: their readers decide their rules.
use Rattle.std.proofs.Common.{◌≡◌, ◌≢◌, ℕ, ℤ, ◌+◌, ◌-◌, ◌<◌, ◌≤◌, Bool, true, false, List, [], ◌∷◌, ◌++◌, length, length-append, length-drop, Option, Some, None, Result, Ok, Err, refl, sym, ap, subst, ◌∙◌, inl, inr, arith}
use Rattle.std.proofs.lemmas.Option.{same_Some}
use Rattle.std.specs.Prelude.{ok_or, slice_range, if◌then◌else◌}
use Rattle.viz_lex.specs.declared.fault.FileFault.{FileFault}
use Rattle.viz_lex.specs.declared.fault.FileKind.TheVariants.{HeaderNumber, Number, ValueRange, Truncated}
use Rattle.viz_lex.specs.declared.span.Span.{Span}
use Rattle.viz_lex.specs.Reading.{Reading, rest_of, advanced, fault_at, ◌>>=◌}
use Rattle.viz_lex.specs.Words.{word_at, text_of, span_from}
use Rattle.viz_lex.specs.Numbers.{whole_of, fits_i128, in_range, number_at}
use Rattle.viz_lex.specs.Steps.{due_decimal, guard, same_word, due_word, due_number, keyword_kind, keyword_at}
use Rattle.viz_lex.specs.Rules.{Rule, IsAlong, IsOnward, gives, demand, follow, Decides}
use Rattle.viz_lex.specs.Items.{IsWordHere, word, keyword, number_from, number, decimal_from, decimal}
use Rattle.viz_lex.specs.Decimals.{decimal_of, limited}
use Rattle.viz_lex.proofs.ReadingLemmas.{done, done_is, fault_is, bind_ok, bind_err}
use Rattle.viz_lex.proofs.WordLemmas.{word_at-Some, word_at-None, word_at-blank, word_at-next, text_of-next}
use Rattle.viz_lex.proofs.RuleLemmas.{decides-gives, decides-refuses, decides-follow, decides-demand}

-- ---- a word

solid_length : (word : List ℕ) → word ≢ [] → 0 < length word
solid_length [] some = absurd (some refl)
solid_length (b ∷ bs) some = omega arith

-- what is found is a word here
word_here : (r next : Reading) (span : Span) → word_at r ≡ Some (span, next) → IsWordHere r next (span.start, text_of r span)
word_here r next span e =
    let h = word_at-Some r next span e in
    let gap = slice_range r.bytes r.place span.start in
    let word = text_of r span in
    let same : (span, next) ≡ (span_from (r.place + length gap) (length word), advanced r (length gap + length word)) = same_Some _ _ (sym e ∙ word_at-next r gap word (rest_of next) h) in
    record { gap = gap; behind = rest_of next; next = h; place = ap (λ (p : Span × Reading). p.0.start) same; new_place = ap (λ (p : Span × Reading). p.1) same }

ok_or-Ok : {A : Type 0} (o : Option A) (f : FileFault) (x : A) → ok_or o f ≡ Ok x → o ≡ Some x
ok_or-Ok None f x e = absurd cc
ok_or-Ok (Some y) f x e = ap Some (done_is y x e)

ok_or-Err : {A : Type 0} (o : Option A) (f g : FileFault) → ok_or o f ≡ Err g → (o ≡ None) × (g ≡ f)
ok_or-Err None f g e = (refl, sym (fault_is f g e))
ok_or-Err (Some y) f g e = absurd cc

-- a word moves on
pub onward-word : (r next : Reading) (x : ℕ × List ℕ) → IsWordHere r next x → IsOnward r next
onward-word r next x h =
    let parts : length (rest_of r) ≡ length h.gap + (length x.1 + length h.behind) = ap length h.next.parts ∙ length-append h.gap (x.1 ++ h.behind) ∙ ap (λ n. length h.gap + n) (length-append x.1 h.behind) in
    let some = solid_length x.1 h.next.is_word.some in
    let left : length (rest_of r) ≡ length r.bytes - r.place = length-drop r.place r.bytes in
    let place : next.place ≡ r.place + (length h.gap + length x.1) = ap (λ (s : Reading). s.place) h.new_place in
    record { same = ap (λ (s : Reading). s.bytes) h.new_place; further = omega arith; within = omega arith }

along-onward : (r next : Reading) → IsOnward r next → IsAlong r next
along-onward r next h = record { same = h.same; further = (let a = h.further in omega arith); within = λ _. h.within }

pub decides-word : Decides word due_word
unfolding due_word
decides-word = record {
  found = λ r x e.
      let found = bind_ok (ok_or (word_at r) (fault_at Truncated (length r.bytes))) (λ found. Ok ((found.0.start, text_of r found.0), found.1)) x e in
      let some = ok_or-Ok (word_at r) (fault_at Truncated (length r.bytes)) found.0 found.1 in
      subst (λ (y : (ℕ × List ℕ) × Reading). IsWordHere r y.1 y.0) (done_is ((found.0.0.start, text_of r found.0.0), found.0.1) x found.2) (word_here r found.0.1 found.0.0 some);
  only = λ r next x h.
      let here = word_at-next r h.gap x.1 h.behind h.next in
      let text = text_of-next r h.gap x.1 h.behind h.next in
      rw (here, text, h.new_place, ← h.place) refl;
  stops = λ r f e.
      elim (bind_err (ok_or (word_at r) (fault_at Truncated (length r.bytes))) (λ found. Ok ((found.0.start, text_of r found.0), found.1)) f e) [
        | inl first ↦ (let none = ok_or-Err (word_at r) (fault_at Truncated (length r.bytes)) f first in (word_at-None r none.0, none.1))
        | inr one ↦ absurd (let some : done ((one.0.0.start, text_of r one.0.0), one.0.1) ≡ Err f = one.2 in cc)
      ];
  only_stops = λ r f h. rw (word_at-blank r h.0, h.1) refl;
  along = λ r next x h. along-onward r next (onward-word r next x h);
}

-- a rule that begins with a word moves on
pub onward-follow : {B : Type 0} (f : ℕ × List ℕ → Rule B) (later : ℕ × List ℕ → Reading → Result (B × Reading) FileFault)
    → ((x : ℕ × List ℕ) → Decides (f x) (later x)) → (r next : Reading) (y : B) → (follow word f).is r next y → IsOnward r next
onward-follow f later d r next y h =
    let first = onward-word r h.1 h.0 h.2 in
    let second = (d h.0).along h.1 next y h.3 in
    let same : length h.1.bytes ≡ length r.bytes = ap length first.same in
    let mid : h.1.place ≤ length h.1.bytes = (let a = first.within in omega arith) in
    record { same = second.same ∙ first.same; further = (let a = first.further in let b = second.further in omega arith); within = (let b = second.within mid in omega arith) }

-- ---- keywords

-- a test whose fault has a kind of its own
decides-at_word : {V : Type 0} (test : Bool) (text : List ℕ) (place : ℕ) (next : Rule V) (read : Reading → Result (V × Reading) FileFault)
    → Decides next read → Decides (demand test (fault_at (keyword_kind text) place) next) (λ r. guard test (keyword_kind text) place >>= λ _. read r)
decides-at_word test text place next read d = decides-demand test (keyword_kind text) place next read d

-- a keyword
pub decides-keyword : (text : List ℕ) → Decides (keyword text) (keyword_at text)
unfolding keyword_at
decides-keyword text =
    decides-follow word (λ w. demand (same_word w.1 text) (fault_at (keyword_kind w.1) w.0) (gives tt)) due_word (λ w r. guard (same_word w.1 text) (keyword_kind w.1) w.0 >>= λ _. Ok (tt, r)) decides-word
    (λ w. decides-at_word (same_word w.1 text) w.1 w.0 (gives tt) (λ r. Ok (tt, r)) (decides-gives tt))

-- ---- numbers

fits_or_not : (b : Bool) (n : ℤ) (place : ℕ)
    → Decides {V = ℕ × ℤ} (demand b (fault_at ValueRange place) (gives (place, n))) (λ r. (if b then Ok n else Err (fault_at ValueRange place)) >>= λ m. Ok ((place, m), r))
fits_or_not true n place = decides-demand true ValueRange place (gives (place, n)) (λ r. Ok ((place, n), r)) (decides-gives (place, n))
fits_or_not false n place = decides-demand false ValueRange place (gives (place, n)) (λ r. Ok ((place, n), r)) (decides-gives (place, n))

decides-number_from : (o : Option ℤ) (place : ℕ) → Decides {V = ℕ × ℤ} (number_from o place) (λ r. in_range o place >>= λ n. Ok ((place, n), r))
decides-number_from None place = decides-refuses (fault_at Number place)
decides-number_from (Some n) place = fits_or_not (fits_i128 n) n place

-- a number
pub decides-number : Decides number due_number
unfolding due_number
decides-number =
    decides-follow word (λ w. number_from (whole_of w.1) w.0) due_word (λ w r. number_at w.1 w.0 >>= λ n. Ok ((w.0, n), r)) decides-word (λ w. decides-number_from (whole_of w.1) w.0)

-- ---- decimals

decides-decimal_from : (o : Option ℤ) (place : ℕ) → Decides {V = ℕ × ℤ} (decimal_from o place) (λ r. ok_or o (fault_at HeaderNumber place) >>= λ z. Ok ((place, z), r))
decides-decimal_from None place = decides-refuses (fault_at HeaderNumber place)
decides-decimal_from (Some z) place = decides-gives (place, z)

-- a decimal
pub decides-decimal : Decides decimal due_decimal
unfolding due_decimal
decides-decimal =
    decides-follow word (λ w. decimal_from (limited (decimal_of w.1)) w.0) due_word (λ w r. ok_or (limited (decimal_of w.1)) (fault_at HeaderNumber w.0) >>= λ z. Ok ((w.0, z), r)) decides-word (λ w. decides-decimal_from (limited (decimal_of w.1)) w.0)
