-- Words passed over: byte by byte, chunk by chunk and word by word.
use Rattle.std.proofs.Common.{◌≡◌, ◌⊎◌, ◌↔◌, ℕ, zero, suc, ◌+◌, ◌-◌, ◌<◌, ◌≤◌, eqb, Bool, true, false, List, [], ◌∷◌, ◌++◌, length, take, drop, All, Option, Some, None, Result, Ok, Err, refl, sym, ap, subst, ◌∙◌, inl, inr, arith}
use Rattle.std.specs.Prelude.{option_map, ok_or, not, ◌&&◌}
use Rattle.std.proofs.lemmas.Bool.{cases_Bool, ne_eqb, and_parts}
use Rattle.std.proofs.lemmas.List.{take-append-drop, drop-drop, length-take-le, length-drop}
use Rattle.std.proofs.lemmas.List.Elements.{All-head, All-tail}
use Rattle.viz_lex.specs.declared.fault.FileFault.{FileFault}
use Rattle.viz_lex.specs.declared.fault.FileKind.TheVariants.{Truncated}
use Rattle.viz_lex.specs.Reading.{Reading, rest_of, advanced, fault_at}
use Rattle.viz_lex.specs.Words.{is_blank, EndsWord, IsBlank, IsWord, IsNextWord}
use Rattle.viz_lex.specs.Counted.{word_ends, inside_after, passed, words_len}
use Rattle.viz_lex.specs.Passing.{words_at, IsNextWords}
use Rattle.viz_lex.proofs.ReadingLemmas.{done, failed, done_is}
use Rattle.viz_lex.proofs.WordLemmas.{IsBlank-head, IsBlank-tail, IsNextWord-or, blanks-next, word_len-next, word_len-blank, drop-next, some_length, word_at-next, word_at-blank, rest_of-next}

map_more : (o : Option ℕ) (a b c : ℕ) → a + b ≡ c → option_map (λ k. a + k) (option_map (λ k. b + k) o) ≡ option_map (λ k. c + k) o
map_more None a b c e = refl
map_more (Some k) a b c e = ap Some (omega arith)

map_suc : (o : Option ℕ) (b : ℕ) → option_map suc (option_map (λ k. b + k) o) ≡ option_map (λ k. suc b + k) o
map_suc None b = refl
map_suc (Some k) b = ap Some (omega arith)

map_zero : (o : Option ℕ) → o ≡ option_map (λ k. 0 + k) o
map_zero None = refl
map_zero (Some k) = ap Some (omega arith)

-- where a part has too few words, the others are behind it
pub passed-append : (inside : Bool) (left : ℕ) (front back : List ℕ) → word_ends inside front < left
    → passed inside left (front ++ back) ≡ option_map (λ k. length front + k) (passed (inside_after inside front) (left - word_ends inside front) back)
passed-append inside left [] back few = let same : left - 0 ≡ left = omega arith in rw same (map_zero (passed inside left back))
passed-append inside left (b ∷ bs) back few =
    elim (cases_Bool (is_blank b && inside)) [
      | inl word ↦
          let blank : is_blank b ≡ true = (and_parts _ _ word).0 in
          let opened : inside ≡ true = (and_parts _ _ word).1 in
          let here : word_ends inside (b ∷ bs) ≡ suc (word_ends false bs) = rw (blank, opened) refl in
          let more : eqb left 1 ≡ false = ne_eqb left 1 (λ e. omega arith) in
          let later = passed-append false (left - 1) bs back (omega arith) in
          let same : left - 1 - word_ends false bs ≡ left - suc (word_ends false bs) = omega arith in
          rw (blank, opened, more, later, same) (map_suc _ (length bs))
      | inr none ↦
          let here : word_ends inside (b ∷ bs) ≡ word_ends (not (is_blank b)) bs = rw none refl in
          let later = passed-append (not (is_blank b)) left bs back (omega arith) in
          rw (none, later) (map_suc _ (length bs))
    ]

-- a chunk with too few words is passed over
pub passed-chunk : (text : List ℕ) (at size left : ℕ) (inside : Bool) (whole : Option ℕ) → at + size ≤ length text → word_ends inside (take size (drop at text)) < left
    → option_map (λ k. at + k) (passed inside left (drop at text)) ≡ whole
    → option_map (λ k. (at + size) + k) (passed (inside_after inside (take size (drop at text))) (left - word_ends inside (take size (drop at text))) (drop (at + size) text)) ≡ whole
passed-chunk text at size left inside whole within few told =
    let chunk = take size (drop at text) in
    let back = drop size (drop at text) in
    let parts : chunk ++ back ≡ drop at text = take-append-drop size (drop at text) in
    let behind : back ≡ drop (at + size) text = drop-drop size at text in
    let long : length chunk ≡ size = length-take-le size (drop at text) (omega (arith, length-drop at text)) in
    let both : passed inside left (drop at text) ≡ option_map (λ k. size + k) (passed (inside_after inside chunk) (left - word_ends inside chunk) (drop (at + size) text)) =
    ap (passed inside left) (sym parts) ∙ passed-append inside left chunk back few ∙ ap (λ n. option_map (λ k. n + k) (passed (inside_after inside chunk) (left - word_ends inside chunk) back)) long ∙ ap (λ t. option_map (λ k. size + k) (passed (inside_after inside chunk) (left - word_ends inside chunk) t)) behind in
    sym (map_more (passed (inside_after inside chunk) (left - word_ends inside chunk) (drop (at + size) text)) at size (at + size) refl) ∙ ap (option_map (λ k. at + k)) (sym both) ∙ told

-- ---- byte by byte and word by word

passed-gap : (left : ℕ) (gap rest : List ℕ) → IsBlank gap → passed false left (gap ++ rest) ≡ option_map (λ k. length gap + k) (passed false left rest)
passed-gap left [] rest h = map_zero _
passed-gap left (b ∷ bs) rest h =
    rw (IsBlank-head b bs h, passed-gap left bs rest (IsBlank-tail b bs h)) (map_suc _ (length bs))

passed-blank : (left : ℕ) (text : List ℕ) → IsBlank text → passed false left text ≡ None
passed-blank left [] h = refl
passed-blank left (b ∷ bs) h = rw (IsBlank-head b bs h, passed-blank left bs (IsBlank-tail b bs h)) refl

passed-solid : (left : ℕ) (word behind : List ℕ) → All (λ b. is_blank b ≡ false) word → passed true left (word ++ behind) ≡ option_map (λ k. length word + k) (passed true left behind)
passed-solid left [] behind h = map_zero _
passed-solid left (b ∷ bs) behind h =
    rw (All-head (λ b. is_blank b ≡ false) b bs h, passed-solid left bs behind (All-tail (λ b. is_blank b ≡ false) b bs h)) (map_suc _ (length bs))

passed-word : (left : ℕ) (word behind : List ℕ) → IsWord word → passed false left (word ++ behind) ≡ option_map (λ k. length word + k) (passed true left behind)
passed-word left [] behind h = absurd (h.some refl)
passed-word left (b ∷ bs) behind h =
    rw (All-head (λ b. is_blank b ≡ false) b bs h.solid, passed-solid left bs behind (All-tail (λ b. is_blank b ≡ false) b bs h.solid)) (map_suc _ (length bs))

passed-next : (left : ℕ) (text gap word behind : List ℕ) → IsNextWord text gap word behind → passed false left text ≡ option_map (λ k. length gap + length word + k) (passed true left behind)
passed-next left text gap word behind h =
    ap (passed false left) h.parts ∙ passed-gap left gap (word ++ behind) h.blank ∙ ap (option_map (λ k. length gap + k)) (passed-word left word behind h.is_word)
    ∙ map_more (passed true left behind) (length gap) (length word) (length gap + length word) refl

-- the word that is open ends here
passed-last : (behind : List ℕ) → EndsWord behind → passed true 1 behind ≡ Some 0
passed-last [] ends = refl
passed-last (b ∷ bs) ends = rw ends refl

passed-more : (n : ℕ) (behind : List ℕ) → EndsWord behind → passed true (suc (suc n)) behind ≡ passed false (suc n) behind
passed-more n [] ends = rw (ne_eqb (suc (suc n)) 1 (λ e. omega arith)) refl
passed-more n (b ∷ bs) ends =
    let less : suc (suc n) - 1 ≡ suc n = omega arith in
    rw (ends, ne_eqb (suc (suc n)) 1 (λ e. omega arith), less) refl

words_len-next : (n : ℕ) (text gap word behind : List ℕ) → IsNextWord text gap word behind → words_len (suc n) text ≡ option_map (λ k. length gap + length word + k) (words_len n behind)
unfolding words_len
words_len-next n text gap word behind h =
    rw (blanks-next text gap word behind h, word_len-next text gap word behind h, some_length word h.is_word.some, drop-next text gap word behind h) refl

words_len-blank : (n : ℕ) (text : List ℕ) → IsBlank text → words_len (suc n) text ≡ None
unfolding words_len
words_len-blank n text h = rw (word_len-blank text h) refl

words_len-zero : (text : List ℕ) → words_len zero text ≡ Some 0
unfolding words_len
words_len-zero text = refl

-- the two ways agree, where they agree behind the word in front
passed-word_by : (n : ℕ) (text : List ℕ) → ((behind : List ℕ) → EndsWord behind → passed true (suc n) behind ≡ words_len n behind) → passed false (suc n) text ≡ words_len (suc n) text
passed-word_by n text later =
    elim (IsNextWord-or text) [
      | inl blank ↦ passed-blank (suc n) text blank ∙ sym (words_len-blank n text blank)
      | inr word ↦
          passed-next (suc n) text word.0 word.1 word.2 word.3 ∙ ap (option_map (λ k. length word.0 + length word.1 + k)) (later word.2 word.3.ends)
          ∙ sym (words_len-next n text word.0 word.1 word.2 word.3)
    ]

passed-words : (n : ℕ) (text : List ℕ) → passed false (suc n) text ≡ words_len (suc n) text
passed-words zero text = passed-word_by zero text (λ behind ends. passed-last behind ends ∙ sym (words_len-zero behind))
passed-words (suc n) text = passed-word_by (suc n) text (λ behind ends. passed-more n behind ends ∙ passed-words n behind)

pub words_len-passed : (n : ℕ) (text : List ℕ) → 0 < n → passed false n text ≡ words_len n text
words_len-passed zero text some = absurd (omega arith)
words_len-passed (suc n) text some = passed-words n text

-- ---- `words_at`

-- the place behind so many bytes, or the fault that words are missing
abbrev moved : Reading → Option ℕ → Result (Unit {0} × Reading) FileFault
moved r len = ok_or (option_map (λ k. (tt, advanced r k)) len) (fault_at Truncated (length r.bytes))

moved-advanced : (r : Reading) (m : ℕ) (o : Option ℕ) → moved (advanced r m) o ≡ moved r (option_map (λ k. m + k) o)
moved-advanced r m None = refl
moved-advanced r m (Some k) =
    let sum : r.place + m + k ≡ r.place + (m + k) = omega arith in
    ap (λ (p : ℕ). done (tt {0}, record { bytes = r.bytes; place = p })) sum

still : (r : Reading) → advanced r 0 ≡ r
still r = let sum : r.place + 0 ≡ r.place = omega arith in ap (λ (p : ℕ). record { bytes = r.bytes; place = p }) sum

words_at-zero : (r : Reading) → words_at zero r ≡ Ok (tt, r)
unfolding words_at
words_at-zero r = refl

words_at-blank : (n : ℕ) (r : Reading) → IsBlank (rest_of r) → words_at (suc n) r ≡ Err (fault_at Truncated (length r.bytes))
unfolding words_at
words_at-blank n r h = rw (word_at-blank r h) refl

words_at-next : (n : ℕ) (r : Reading) (gap word behind : List ℕ) → IsNextWord (rest_of r) gap word behind → words_at (suc n) r ≡ words_at n (advanced r (length gap + length word))
unfolding words_at
words_at-next n r gap word behind h = rw (word_at-next r gap word behind h) refl

words_at-moved : (n : ℕ) (r : Reading) → words_at n r ≡ moved r (words_len n (rest_of r))
words_at-moved zero r = words_at-zero r ∙ ap (λ (x : Reading). done (tt {0}, x)) (sym (still r)) ∙ ap (moved r) (sym (words_len-zero (rest_of r)))
words_at-moved (suc n) r =
    elim (IsNextWord-or (rest_of r)) [
      | inl blank ↦ words_at-blank n r blank ∙ ap (moved r) (sym (words_len-blank n (rest_of r) blank))
      | inr word ↦
          let m = length word.0 + length word.1 in
          words_at-next n r word.0 word.1 word.2 word.3 ∙ words_at-moved n (advanced r m)
          ∙ ap (λ t. moved (advanced r m) (words_len n t)) (rest_of-next r word.0 word.1 word.2 word.3)
          ∙ moved-advanced r m (words_len n word.2) ∙ ap (moved r) (sym (words_len-next n (rest_of r) word.0 word.1 word.2 word.3))
    ]

pub words_at-some : (n : ℕ) (r : Reading) (len : ℕ) → words_len n (rest_of r) ≡ Some len → words_at n r ≡ Ok (tt, advanced r len)
words_at-some n r len e = words_at-moved n r ∙ ap (moved r) e

pub words_at-none : (n : ℕ) (r : Reading) → words_len n (rest_of r) ≡ None → words_at n r ≡ Err (fault_at Truncated (length r.bytes))
words_at-none n r e = words_at-moved n r ∙ ap (moved r) e

-- words that stand one after the other are passed over
pub words_at-found : (n : ℕ) (r : Reading) (behind : List ℕ) → IsNextWords n (rest_of r) behind → (len : ℕ) × (words_at n r ≡ Ok (tt, advanced r len)) × (rest_of (advanced r len) ≡ behind)
words_at-found zero r behind h =
    (0, words_at-zero r ∙ ap (λ (x : Reading). done (tt {0}, x)) (sym (still r)), ap rest_of (still r) ∙ h)
words_at-found (suc n) r behind h =
    let m = length h.0 + length h.1 in
    let left = rest_of-next r h.0 h.1 h.2 h.3 in
    let later = words_at-found n (advanced r m) behind (subst (λ t. IsNextWords n t behind) (sym left) h.4) in
    let sum : r.place + m + later.0 ≡ r.place + (m + later.0) = omega arith in (
      m + later.0,
      words_at-next n r h.0 h.1 h.2 h.3 ∙ later.1 ∙ ap (λ (p : ℕ). done (tt {0}, record { bytes = r.bytes; place = p })) sum,
      sym (ap (λ (p : ℕ). drop p r.bytes) sum) ∙ later.2,
    )

-- what is passed over is words that stand one after the other
pub words_at-Ok : (n : ℕ) (r next : Reading) → words_at n r ≡ Ok (tt, next) → IsNextWords n (rest_of r) (rest_of next)
words_at-Ok zero r next e = ap rest_of (ap (λ (p : Unit {0} × Reading). p.1) (done_is _ _ (sym (words_at-zero r) ∙ e)))
words_at-Ok (suc n) r next e =
    elim (IsNextWord-or (rest_of r)) [
      | inl blank ↦ absurd (let none : failed (fault_at Truncated (length r.bytes)) ≡ Ok (tt, next) = sym (words_at-blank n r blank) ∙ e in cc)
      | inr word ↦
          let m = length word.0 + length word.1 in
          let later = words_at-Ok n (advanced r m) next (sym (words_at-next n r word.0 word.1 word.2 word.3) ∙ e) in
          (word.0, word.1, word.2, word.3, subst (λ t. IsNextWords n t (rest_of next)) (rest_of-next r word.0 word.1 word.2 word.3) later)
    ]

words_at-either : (r : Reading) (o : Option ℕ) → ((len : ℕ) × (moved r o ≡ Ok (tt, advanced r len))) ⊎ (moved r o ≡ Err (fault_at Truncated (length r.bytes)))
words_at-either r None = inr refl
words_at-either r (Some k) = inl (k, refl)

-- they are too few exactly where so many don't stand there
pub words_at-Truncated : (n : ℕ) (r : Reading) → (words_at n r ≡ Err (fault_at Truncated (length r.bytes))) ↔ ((behind : List ℕ) → IsNextWords n (rest_of r) behind → ⊥)
words_at-Truncated n r = (
  λ e behind h. let found = words_at-found n r behind h in let same : failed (fault_at Truncated (length r.bytes)) ≡ Ok (tt, advanced r found.0) = sym e ∙ found.1 in cc,
  λ none. elim (words_at-either r (words_len n (rest_of r))) [
    | inl found ↦ absurd (none _ (words_at-Ok n r (advanced r found.0) (words_at-moved n r ∙ found.1)))
    | inr short ↦ words_at-moved n r ∙ short
  ],
)
