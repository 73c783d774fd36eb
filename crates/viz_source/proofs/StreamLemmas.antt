-- Lines of streams: the line in front, and what its answer says of those that are to come.
use Rattle.std.proofs.Common.{◌≡◌, ◌≢◌, ◌↔◌, ◌≤◌, ℕ, zero, suc, ◌+◌, ◌-◌, true, false, ◌⊎◌, inl, inr, List, [], ◌∷◌, ◌++◌, length, take, drop, map, Option, Some, None, Result, Ok, Err, refl, sym, ap, ◌∙◌, arith, append_assoc}
use Rattle.std.proofs.lemmas.Bool.{cases_lt, both_ways, lt-ltb, le-ltb, ne_eqb, cond-true, cond-false}
use Rattle.std.proofs.lemmas.List.{append-nil, length-append, take_at, take_all}
use Rattle.viz_lex.specs.Words.{HasNoNewline}
use Rattle.viz_lex.proofs.LineLemmas.{HasNoNewline-nil, HasNoNewline-cons, HasNoNewline-head, HasNoNewline-tail}
use Rattle.viz_words.specs.Lines.{line_len, lines_of}
use Rattle.viz_words.specs.Steps.Scans.{trimmed}
use Rattle.viz_words.proofs.ScanLemmas.{lines-ended, lines-last}
use Rattle.viz_source.specs.declared.limits.TheConstants.{STREAM_LIMIT}
use Rattle.viz_source.specs.declared.next_line.NextLine.{NextLine}
use Rattle.viz_source.specs.declared.next_line.NextLine.TheVariants.{Line, LongLine, End}
use Rattle.viz_source.specs.declared.next_line.StreamStop.{StreamStop}
use Rattle.viz_source.specs.declared.next_line.StreamStop.TheVariants.{TooLong, Failed}
use Rattle.viz_source.specs.Streams.{Stream, told_line, told_lines, before_newline, up_to_newline, whole_lines, lines_left, IsTooLong, IsWholeLine, IsLastLine, IsFrontLine, IsPastLimit, IsOpenLine, IsOver, AreFrontLines}
use Rattle.viz_source.specs.Readers.{Answers, Tells}

-- ---- bytes without a newline

pub HasNoNewline-append : (xs ys : List ℕ) → HasNoNewline xs → HasNoNewline ys → HasNoNewline (xs ++ ys)
HasNoNewline-append [] ys h k = k
HasNoNewline-append (x ∷ xs) ys h k =
    HasNoNewline-cons x (xs ++ ys) (HasNoNewline-head x xs h) (HasNoNewline-append xs ys (HasNoNewline-tail x xs h) k)

pub HasNoNewline-take : (n : ℕ) (xs : List ℕ) → HasNoNewline xs → HasNoNewline (take n xs)
HasNoNewline-take zero xs h = HasNoNewline-nil
HasNoNewline-take (suc n) [] h = h
HasNoNewline-take (suc n) (x ∷ xs) h =
    HasNoNewline-cons x (take n xs) (HasNoNewline-head x xs h) (HasNoNewline-take n xs (HasNoNewline-tail x xs h))

-- the first bytes of two lists, one behind the other
pub take-append : (n : ℕ) (xs ys : List ℕ) → take n (xs ++ ys) ≡ take n xs ++ take (n - length xs) ys
take-append zero xs ys = let none : 0 - length xs ≡ 0 = omega arith in ap (λ k. take k ys) (sym none)
take-append (suc n) [] ys = let same : suc n - 0 ≡ suc n = omega arith in ap (λ k. take k ys) (sym same)
take-append (suc n) (x ∷ xs) ys =
    let same : suc n - suc (length xs) ≡ n - length xs = omega arith in
    ap (λ l. x ∷ l) (take-append n xs ys ∙ ap (λ k. take n xs ++ take k ys) (sym same))

-- ---- the line in front

length_of : (line more : List ℕ) → HasNoNewline line → line_len (line ++ 10 ∷ more) ≡ Some (length line)
length_of [] more one = refl
length_of (b ∷ bs) more one =
    rw (ne_eqb b 10 (HasNoNewline-head b bs one), length_of bs more (HasNoNewline-tail b bs one)) refl

no_length : (line : List ℕ) → HasNoNewline line → line_len line ≡ None
no_length [] one = refl
no_length (b ∷ bs) one =
    rw (ne_eqb b 10 (HasNoNewline-head b bs one), no_length bs (HasNoNewline-tail b bs one)) refl

pub lines-first : (line more : List ℕ) → HasNoNewline line → lines_of (line ++ 10 ∷ more) ≡ trimmed line ∷ lines_of more
lines-first line more one =
    lines-ended (line ++ 10 ∷ more) (length line) (length_of line more one)
    ∙ ap (λ l. trimmed l ∷ lines_of (drop (suc (length line)) (line ++ 10 ∷ more))) (take_at line (10 ∷ more) (length line) refl)
    ∙ ap (λ l. trimmed line ∷ lines_of l) (behind line more)
  where
    behind : (line more : List ℕ) → drop (suc (length line)) (line ++ 10 ∷ more) ≡ more
    behind [] more = refl
    behind (b ∷ bs) more = behind bs more

pub lines-only : (line : List ℕ) → HasNoNewline line → line ≢ [] → lines_of line ≡ line ∷ []
lines-only [] one some = absurd (some refl)
lines-only (b ∷ bs) one some = lines-last (b ∷ bs) (no_length (b ∷ bs) one) (omega arith)

-- ---- the part that newlines end

whole-cons : (b : ℕ) (bs line more : List ℕ) → bs ≡ line ++ 10 ∷ more → before_newline b bs ≡ b ∷ bs
whole-cons b bs [] more e = rw e refl
whole-cons b bs (c ∷ cs) more e = rw e refl

pub whole-first : (line more : List ℕ) → up_to_newline (line ++ 10 ∷ more) ≡ line ++ 10 ∷ up_to_newline more
whole-first [] more = by (up_to_newline more)
  where
    by : (bs : List ℕ) → before_newline 10 bs ≡ 10 ∷ bs
    by [] = refl
    by (c ∷ cs) = refl
whole-first (b ∷ bs) more =
    let rest = whole-first bs more in
    whole-cons b (up_to_newline (bs ++ 10 ∷ more)) bs (up_to_newline more) rest ∙ ap (λ l. b ∷ l) rest

pub whole-none : (line : List ℕ) → HasNoNewline line → up_to_newline line ≡ []
whole-none [] one = refl
whole-none (b ∷ bs) one =
    rw (whole-none bs (HasNoNewline-tail b bs one), ne_eqb b 10 (HasNoNewline-head b bs one)) refl

-- ---- what the next line says of those that are to come

first_is : (a b : Option (List ℕ)) (xs ys : List (Option (List ℕ))) → a ∷ xs ≡ b ∷ ys → a ≡ b
first_is a b xs ys e = cc

-- a line that a newline ends stands in front of the others
told-whole : (text more : List ℕ) (line : Option (List ℕ)) → IsWholeLine text → told_lines text ≡ line ∷ [] → told_lines (text ++ more) ≡ line ∷ told_lines more
told-whole text more line ends told =
    let whole : text ++ more ≡ ends.line ++ 10 ∷ more = ap (λ l. l ++ more) ends.parts ∙ append_assoc ends.line (10 ∷ []) more in
    let here : told_lines text ≡ told_line (trimmed ends.line) ∷ told_lines [] = ap told_lines ends.parts ∙ ap (map told_line) (lines-first ends.line [] ends.one) in
    let same : told_line (trimmed ends.line) ≡ line = first_is _ _ (told_lines []) [] (sym here ∙ told) in
    ap told_lines whole ∙ ap (map told_line) (lines-first ends.line more ends.one) ∙ ap (λ l. l ∷ told_lines more) same

-- and of those that were taken whole
pub whole-front : (text more : List ℕ) (line : Option (List ℕ)) → IsWholeLine text → told_lines text ≡ line ∷ [] → whole_lines (text ++ more) ≡ line ∷ whole_lines more
whole-front text more line ends told =
    let whole : text ++ more ≡ ends.line ++ 10 ∷ more = ap (λ l. l ++ more) ends.parts ∙ append_assoc ends.line (10 ∷ []) more in
    let back : ends.line ++ 10 ∷ up_to_newline more ≡ text ++ up_to_newline more = sym (ap (λ l. l ++ up_to_newline more) ends.parts ∙ append_assoc ends.line (10 ∷ []) (up_to_newline more)) in
    ap whole_lines whole ∙ ap told_lines (whole-first ends.line more) ∙ ap told_lines back ∙ told-whole text (up_to_newline more) line ends told

-- of a stream that isn't too long all lines are to come
pub lines_left-all : (s : Stream) → s.passed + length s.bytes ≤ STREAM_LIMIT → lines_left s ≡ told_lines s.bytes
unfolding lines_left
lines_left-all s h = cond-false _ _ _ (le-ltb STREAM_LIMIT (s.passed + length s.bytes) h)

-- of one that is too long those that end within its first bytes
pub lines_left-some : (s : Stream) → IsTooLong s → lines_left s ≡ whole_lines (take (STREAM_LIMIT - s.passed) s.bytes)
unfolding lines_left
lines_left-some s h = cond-true _ _ _ (lt-ltb STREAM_LIMIT (s.passed + length s.bytes) h)

-- how long a stream is stays the same behind its next line
same_length : (old new : Stream) (line : Option (List ℕ)) → IsFrontLine old new line → new.passed + length new.bytes ≡ old.passed + length old.bytes
same_length old new line h =
    let size : length old.bytes ≡ length h.text + length new.bytes = ap length h.parts ∙ length-append h.text new.bytes in
    omega (arith, h.passed, size)

-- the next line stands in front of those that are to come behind it
pub front-lines : (old new : Stream) (line : Option (List ℕ)) → IsFrontLine old new line → lines_left old ≡ line ∷ lines_left new
front-lines old new line h = elim (cases_lt STREAM_LIMIT (old.passed + length old.bytes)) [
  | inl longer ↦
      let more : IsTooLong new = omega (arith, longer, same_length old new line h) in
      elim h.ends [
        | inl ends ↦
            let room : STREAM_LIMIT - old.passed - length h.text ≡ STREAM_LIMIT - new.passed = omega (arith, h.passed) in
            let all : length h.text ≤ STREAM_LIMIT - old.passed = omega (arith, h.passed, h.within) in
            let front : take (STREAM_LIMIT - old.passed) old.bytes ≡ h.text ++ take (STREAM_LIMIT - new.passed) new.bytes =
            ap (take (STREAM_LIMIT - old.passed)) h.parts ∙ take-append (STREAM_LIMIT - old.passed) h.text new.bytes
            ∙ ap (λ l. l ++ take (STREAM_LIMIT - old.passed - length h.text) new.bytes) (take_all (STREAM_LIMIT - old.passed) h.text all)
            ∙ ap (λ n. h.text ++ take n new.bytes) room in
            lines_left-some old longer ∙ ap whole_lines front
            ∙ whole-front h.text (take (STREAM_LIMIT - new.passed) new.bytes) line ends h.told ∙ ap (λ l. line ∷ l) (sym (lines_left-some new more))
        | inr last ↦
            let none : length new.bytes ≡ 0 = ap length last.last in
            absurd (omega (arith, more, none, h.within))
      ]
  | inr short ↦
      let less : new.passed + length new.bytes ≤ STREAM_LIMIT = omega (arith, short, same_length old new line h) in
      elim h.ends [
        | inl ends ↦
            lines_left-all old short ∙ ap told_lines h.parts ∙ told-whole h.text new.bytes line ends h.told
            ∙ ap (λ l. line ∷ l) (sym (lines_left-all new less))
        | inr last ↦
            let whole : old.bytes ≡ h.text = h.parts ∙ ap (λ l. h.text ++ l) last.last ∙ append-nil h.text in
            lines_left-all old short ∙ ap told_lines whole ∙ h.told
            ∙ ap (λ l. line ∷ l) (sym (lines_left-all new less ∙ ap told_lines last.last))
      ]
]

-- no line is to come where no byte is
pub over-lines : (s : Stream) → s.bytes ≡ [] → lines_left s ≡ []
over-lines s h = elim (cases_lt STREAM_LIMIT (s.passed + length s.bytes)) [
  | inl longer ↦ lines_left-some s longer ∙ ap (λ l. whole_lines (take (STREAM_LIMIT - s.passed) l)) h ∙ ap whole_lines (nothing (STREAM_LIMIT - s.passed))
  | inr short ↦ lines_left-all s short ∙ ap told_lines h
]
  where
    nothing : (n : ℕ) → take {A = ℕ} n [] ≡ []
    nothing zero = refl
    nothing (suc n) = refl

-- nor where none ends within the limit
pub past-lines : (s : Stream) → IsPastLimit s → lines_left s ≡ []
past-lines s h = lines_left-some s h.longer ∙ ap told_lines (whole-none (take (STREAM_LIMIT - s.passed) s.bytes) h.none)

-- what an answer says of the lines that are to come
pub tells_of : (result : Result NextLine StreamStop) (line : List ℕ) (old new : Stream) (left : List ℕ) → Answers result line old new left → Tells result line old new
tells_of (Ok Line) line old new left h = front-lines old new (Some line) h
tells_of (Ok LongLine) line old new left h = front-lines old new None h
tells_of (Ok End) line old new left h = over-lines old h.0
tells_of (Err TooLong) line old new left h = past-lines old h
tells_of (Err Failed) line old new left h = tt

-- ---- all answers

-- lines that are answered one after the other stand in front of those that are to come
pub answered-lines : (old new : Stream) (lines : List (Option (List ℕ))) → AreFrontLines old lines new → lines_left old ≡ lines ++ lines_left new
answered-lines old new [] h = ap lines_left (sym h)
answered-lines old new (line ∷ lines) h = front-lines old h.0 line h.1 ∙ ap (λ l. line ∷ l) (answered-lines h.0 new lines h.2)

answered-length : (old new : Stream) (lines : List (Option (List ℕ))) → AreFrontLines old lines new → new.passed + length new.bytes ≡ old.passed + length old.bytes
answered-length old new [] h = ap (λ (s : Stream). s.passed + length s.bytes) h
answered-length old new (line ∷ lines) h = answered-length h.0 new lines h.2 ∙ same_length old h.0 line h.1

-- a stream is as long behind them
pub answered-too_long : (old new : Stream) (lines : List (Option (List ℕ))) → AreFrontLines old lines new → IsTooLong old ↔ IsTooLong new
answered-too_long old new lines h =
    let same = answered-length old new lines h in
    (λ long. omega (arith, same, long), λ long. omega (arith, same, long))

pub over-nothing : (s : Stream) → IsOver s → lines_left s ≡ []
over-nothing s (inl over) = over-lines s over
over-nothing s (inr past) = past-lines s past

pub answered-all : (old new : Stream) (lines : List (Option (List ℕ))) → AreFrontLines old lines new → IsOver new → lines ≡ lines_left old
answered-all old new lines h over =
    sym (append-nil lines) ∙ ap (λ l. lines ++ l) (sym (over-nothing new over)) ∙ sym (answered-lines old new lines h)

-- ---- what was taken whole

nothing_in_front : (old new : Stream) (line : Option (List ℕ)) → old.bytes ≡ [] → IsFrontLine old new line → ⊥
nothing_in_front old new line none h = by h.text (sym none ∙ h.parts) h.ends
  where
    by : (text : List ℕ) → [] ≡ text ++ new.bytes → IsWholeLine text ⊎ IsLastLine text new → ⊥
    by [] e (inl ends) = let size = ap length ends.parts in omega (arith, size, length-append ends.line (10 ∷ []))
    by [] e (inr last) = last.some refl
    by (b ∷ bs) e ends = let size : 0 ≡ length (b ∷ bs ++ new.bytes) = ap length e in omega (arith, size)

ended_stays : (old new : Stream) (lines : List (Option (List ℕ))) → old.bytes ≡ [] → old.ended ≡ true → AreFrontLines old lines new → new.ended ≡ true
ended_stays old new [] none over h = ap (λ (s : Stream). s.ended) h ∙ over
ended_stays old new (line ∷ lines) none over h = absurd (nothing_in_front old h.0 line none h.1)

-- where a pull fails, the lines that were answered are those that were taken whole
pub answered-whole : (old new : Stream) (lines : List (Option (List ℕ))) (left : List ℕ) → AreFrontLines old lines new → new.ended ≡ false → IsOpenLine new.bytes left
    → (front : List ℕ) × (old.bytes ≡ front ++ left) × (lines ≡ whole_lines front)
answered-whole old new [] left h goes_on open_line =
    (open_line.line, ap (λ (s : Stream). s.bytes) (sym h) ∙ open_line.parts, sym (ap told_lines (whole-none open_line.line open_line.none)))
answered-whole old new (line ∷ lines) left h goes_on open_line =
    let rest = answered-whole h.0 new lines left h.2 goes_on open_line in
    by h.1.ends rest
  where
    by : IsWholeLine h.1.text ⊎ IsLastLine h.1.text h.0
        → (front : List ℕ) × (h.0.bytes ≡ front ++ left) × (lines ≡ whole_lines front)
        → (front : List ℕ) × (old.bytes ≡ front ++ left) × (line ∷ lines ≡ whole_lines front)
    by (inl ends) rest = (
      h.1.text ++ rest.0,
      h.1.parts ∙ ap (λ l. h.1.text ++ l) rest.1 ∙ sym (append_assoc h.1.text rest.0 left),
      ap (λ l. line ∷ l) rest.2 ∙ sym (whole-front h.1.text rest.0 line ends h.1.told),
    )
    by (inr last) rest = absurd (both_ways new.ended goes_on (ended_stays h.0 new lines last.last last.ended h.2))
