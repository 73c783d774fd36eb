-- What the next answer of a reader says, where bytes of a line were kept since its start.
use Rattle.std.proofs.Common.{◌≡◌, ◌≢◌, ◌<◌, ◌≤◌, ℕ, zero, suc, ◌+◌, ◌-◌, IsTrue, Bool, true, false, leb, cond, ◌⊎◌, inl, inr, List, [], ◌∷◌, ◌++◌, length, take, drop, map, Option, Some, None, Ok, Err, refl, sym, ap, subst, ◌∙◌, arith, append_assoc}
use Rattle.std.proofs.Math.Seq.{take-append-add, drop-append-add}
use Rattle.std.proofs.lemmas.Bool.{cases_Bool, cases_lt, cond-true, cond-false, lt-leb, both_ways}
use Rattle.std.proofs.lemmas.List.{append-nil, length-append, length-take-le, length-drop, take_at, take_all, take-append-le, take-append-drop, drop-drop}
use Rattle.std.proofs.lemmas.List.Elements.{All-contains}
use Rattle.viz_lex.specs.Words.{HasNoNewline}
use Rattle.viz_words.specs.Steps.Scans.{trimmed}
use Rattle.viz_source.specs.declared.limits.TheConstants.{LINE_LIMIT, STREAM_LIMIT, KEPT}
use Rattle.viz_source.specs.declared.next_line.NextLine.{NextLine}
use Rattle.viz_source.specs.declared.next_line.NextLine.TheVariants.{Line, LongLine, End}
use Rattle.viz_source.specs.declared.next_line.StreamStop.{StreamStop}
use Rattle.viz_source.specs.declared.next_line.StreamStop.TheVariants.{TooLong, Failed}
use Rattle.viz_source.specs.Streams.{Stream, told_line, IsFrontLine, IsPastLimit, IsOpenLine}
use Rattle.viz_source.specs.Readers.{Reader, held, bytes_of, stream_of, NeedsNoPull, IsPrompt, Answers}
use Rattle.viz_source.specs.Steps.Reading.{measured, last_measured, EndsLine, GoesOn, IsPast, Looks, IsOpen}
use Rattle.viz_source.proofs.StreamLemmas.{HasNoNewline-append, HasNoNewline-take, take-append, lines-first, lines-only}

-- ---- what is kept of a line

-- a line that is too long isn't told
long_line : (line : List ℕ) → LINE_LIMIT < length line → told_line line ≡ None
long_line line h = cond-false _ _ _ (lt-leb (length line) LINE_LIMIT h)

trimmed-length : (line : List ℕ) → length line ≤ length (trimmed line) + 1
trimmed-length [] = omega arith
trimmed-length (b ∷ []) = omega arith
trimmed-length (b ∷ c ∷ bs) = let rest = trimmed-length (c ∷ bs) in omega (arith, rest)

-- what is kept tells as much of a line as all of it
kept_told : (line : List ℕ) → told_line (take KEPT line) ≡ told_line line
kept_told line = elim (cases_lt KEPT (length line)) [
  | inl long ↦
      let size : length (take KEPT line) ≡ KEPT = length-take-le KEPT line (omega (arith, long)) in
      long_line (take KEPT line) (omega (arith, size)) ∙ sym (long_line line (omega (arith, long)))
  | inr short ↦ ap told_line (take_all KEPT line short)
]

kept_trimmed : (line : List ℕ) → told_line (trimmed (take KEPT line)) ≡ told_line (trimmed line)
kept_trimmed line = elim (cases_lt KEPT (length line)) [
  | inl long ↦
      let size : length (take KEPT line) ≡ KEPT = length-take-le KEPT line (omega (arith, long)) in
      let some = trimmed-length (take KEPT line) in
      let all = trimmed-length line in
      long_line (trimmed (take KEPT line)) (omega (arith, size, some)) ∙ sym (long_line (trimmed line) (omega (arith, long, all)))
  | inr short ↦ ap (λ l. told_line (trimmed l)) (take_all KEPT line short)
]

keep_again : (k : ℕ) (xs ys : List ℕ) → take k (take k xs ++ ys) ≡ take k (xs ++ ys)
keep_again zero xs ys = refl
keep_again (suc k) [] ys = refl
keep_again (suc k) (x ∷ xs) ys = ap (λ l. x ∷ l) (keep_again k xs ys)

-- ---- a line that ends among the bytes that are held

held-next : (r : Reader) (line behind : List ℕ) → held r ≡ line ++ 10 ∷ behind → drop (r.place + (length line + 1)) r.piece ≡ behind
held-next r line behind h =
    sym (drop-drop (length line + 1) r.place r.piece) ∙ ap (drop (length line + 1)) h ∙ drop-append-add line (10 ∷ behind) 1

kept_line : (tells : Bool) (start now : Reader) (before left : List ℕ) → (o : IsOpen tells start now before left) (line behind : List ℕ) → held now ≡ line ++ 10 ∷ behind
    → take KEPT (now.line ++ take (length line) (held now)) ≡ take KEPT (o.line ++ line)
kept_line tells start now before left o line behind h =
    let front : take (length line) (held now) ≡ line = ap (take (length line)) h ∙ take_at line (10 ∷ behind) (length line) refl in
    ap (λ l. take KEPT (now.line ++ l)) front ∙ ap (λ l. take KEPT (l ++ line)) o.kept ∙ keep_again KEPT o.line line

-- a line is told, or it is too long
told_measured : (line : List ℕ) (old new : Stream) (left : List ℕ) → IsFrontLine old new (told_line line) → Answers (Ok (measured line)) line old new left
told_measured line old new left = by (leb (length line) LINE_LIMIT)
  where
    by : (b : Bool) → IsFrontLine old new (cond b (Some line) None) → Answers (Ok (cond b Line LongLine)) line old new left
    by true h = h
    by false h = h

regroup : (kept line behind left : List ℕ) → kept ++ ((line ++ 10 ∷ behind) ++ left) ≡ ((kept ++ line) ++ 10 ∷ []) ++ (behind ++ left)
regroup kept line behind left = simp append_assoc

pub line_is_in_front : (tells : Bool) (start now new : Reader) (next : NextLine) (before left : List ℕ) → IsOpen tells start now before left → now.ended ≡ false → EndsLine now new next → IsTrue tells
    → IsFrontLine (stream_of start before) (stream_of new left) (told_line new.line)
line_is_in_front tells start now new next before left o goes_on e told =
    let whole = o.line ++ e.line in
    let text = whole ++ 10 ∷ [] in
    let one = HasNoNewline-append o.line e.line o.none e.parts.one in
    let line : new.line ≡ trimmed (take KEPT whole) = ap (λ (r : Reader). r.line) e.after ∙ ap trimmed (kept_line tells start now before left o e.line e.behind e.parts.parts) in
    let told_is : told_line (trimmed whole) ≡ told_line new.line = sym (ap told_line line ∙ kept_trimmed whole) in
    let new_goes_on : new.ended ≡ false = ap (λ (r : Reader). r.ended) e.after ∙ goes_on in
    let behind : held new ≡ e.behind = ap held e.after ∙ held-next now e.line e.behind e.parts.parts in
    let old_bytes : bytes_of now left ≡ (e.line ++ 10 ∷ e.behind) ++ left = cond-false _ _ _ goes_on ∙ ap (λ l. l ++ left) e.parts.parts in
    let new_bytes : bytes_of new left ≡ e.behind ++ left = cond-false _ _ _ new_goes_on ∙ ap (λ l. l ++ left) behind in
    let parts : bytes_of start before ≡ text ++ bytes_of new left =
    o.bytes told ∙ ap (λ l. o.line ++ l) old_bytes ∙ regroup o.line e.line e.behind left ∙ ap (λ l. text ++ l) (sym new_bytes) in
    let after : new.passed ≡ now.passed + (length e.line + 1) = ap (λ (r : Reader). r.passed) e.after in
    let size : length text ≡ length o.line + length e.line + 1 = simp length-append (omega arith) in
    let passed : new.passed ≡ start.passed + length text = omega (arith, after, size, o.passed) in
    record {
      text = text;
      parts = parts;
      passed = passed;
      within = e.within;
      ends = inl (record { line = whole; parts = refl; one = one });
      told = ap (map told_line) (lines-first whole [] one) ∙ ap (λ (l : Option (List ℕ)). l ∷ []) told_is;
    }

pub line_answers : (tells : Bool) (start now new : Reader) (next : NextLine) (before left : List ℕ) → IsOpen tells start now before left → now.ended ≡ false → EndsLine now new next → IsTrue tells
    → Answers (Ok next) new.line (stream_of start before) (stream_of new left) left
line_answers tells start now new next before left o goes_on e told =
    let P : NextLine → Type 0 = λ n. Answers (Ok n) new.line (stream_of start before) (stream_of new left) left in
    subst P (sym e.next_is) (told_measured new.line (stream_of start before) (stream_of new left) left (line_is_in_front tells start now new next before left o goes_on e told))

-- nothing was pulled behind it
pub line_is_prompt : (now new : Reader) (next : NextLine) → EndsLine now new next → IsPrompt new
line_is_prompt now new next e =
    let place : new.place ≡ now.place + (length e.line + 1) = ap (λ (r : Reader). r.place) e.after in
    let piece : new.piece ≡ now.piece = ap (λ (r : Reader). r.piece) e.after in
    let size : length (held now) ≡ length e.line + suc (length e.behind) = ap length e.parts.parts ∙ length-append e.line (10 ∷ e.behind) in
    let within : now.place ≤ length now.piece = omega (arith, size, length-drop now.place now.piece) in
    let front = take now.place now.piece in
    let front_size : length (take now.place now.piece) ≡ now.place = length-take-le now.place now.piece within in
    let sum : now.place + (length e.line + 1) ≡ length (take now.place now.piece) + (length e.line + 1) = ap (λ n. n + (length e.line + 1)) (sym front_size) in
    let parts : now.piece ≡ take now.place now.piece ++ (e.line ++ 10 ∷ e.behind) = sym (take-append-drop now.place now.piece) ∙ ap (λ l. front ++ l) e.parts.parts in
    let passed : take new.place new.piece ≡ (front ++ e.line) ++ 10 ∷ [] =
    ap (λ n. take n new.piece) (place ∙ sum) ∙ ap (take (length front + (length e.line + 1))) (piece ∙ parts)
    ∙ take-append-add front (e.line ++ 10 ∷ e.behind) (length e.line + 1) ∙ ap (λ l. front ++ l) (take-append-add e.line (10 ∷ e.behind) 1)
    ∙ sym (append_assoc front e.line (10 ∷ [])) in
    inr (front ++ e.line, passed)

-- ---- the end of the input

pub last_answers : (tells : Bool) (start now : Reader) (before left : List ℕ) → IsOpen tells start now before left → now.ended ≡ true → now.passed ≤ STREAM_LIMIT → IsTrue tells
    → Answers (Ok (last_measured now.line)) now.line (stream_of start before) (stream_of now left) left
last_answers tells start now before left o over within told =
    let rest : bytes_of now left ≡ [] = cond-true _ _ _ over in
    let parts : bytes_of start before ≡ o.line = o.bytes told ∙ ap (λ l. o.line ++ l) rest ∙ append-nil o.line in
    let P : List ℕ → Type 0 = λ l. Answers (Ok (last_measured l)) l (stream_of start before) (stream_of now left) left in
    subst P (sym o.kept) (by o.line parts rest o.passed o.none)
  where
    by : (line : List ℕ) → bytes_of start before ≡ line → bytes_of now left ≡ [] → now.passed ≡ start.passed + length line → HasNoNewline line
        → Answers (Ok (last_measured (take KEPT line))) (take KEPT line) (stream_of start before) (stream_of now left) left
    by [] parts rest passed one =
        let same : now.passed ≡ start.passed = omega (arith, passed) in
        let new : ℕ → List ℕ → Bool → Stream = λ (n : ℕ) (l : List ℕ) (t : Bool). record { passed = n; bytes = l; ended = t } in (
          parts,
          ap (λ n. new n (bytes_of now left) now.ended) same ∙ ap (λ l. new start.passed l now.ended) (rest ∙ sym parts)
              ∙ ap (new start.passed (bytes_of start before)) over,
        )
    by (b ∷ bs) parts rest passed one =
        let some : (b ∷ bs) ≢ [] = λ h. cc in
        told_measured (take KEPT (b ∷ bs)) (stream_of start before) (stream_of now left) left (record {
          text = b ∷ bs;
          parts = parts ∙ sym (append-nil (b ∷ bs)) ∙ ap (λ l. (b ∷ bs) ++ l) (sym rest);
          passed = passed;
          within = within;
          ends = inr (record { some = some; none = one; last = rest; ended = over });
          told = ap (map told_line) (lines-only (b ∷ bs) one some) ∙ ap (λ (l : Option (List ℕ)). l ∷ []) (sym (kept_told (b ∷ bs)));
        })

-- ---- no line comes

pub past_answers : (tells : Bool) (start now new : Reader) (before left : List ℕ) → IsOpen tells start now before left → now.ended ≡ false → IsPast now new → IsTrue tells
    → IsPastLimit (stream_of start before)
past_answers tells start now new before left o goes_on p told =
    let n = STREAM_LIMIT - start.passed in
    let m = STREAM_LIMIT - now.passed in
    let rest : bytes_of now left ≡ held now ++ left = cond-false _ _ _ goes_on in
    let parts : bytes_of start before ≡ o.line ++ (held now ++ left) = o.bytes told ∙ ap (λ l. o.line ++ l) rest in
    let room : STREAM_LIMIT - start.passed - length o.line ≡ STREAM_LIMIT - now.passed = omega (arith, o.passed) in
    let few : STREAM_LIMIT - now.passed ≤ length (held now) = omega (arith, p.longer) in
    let front : take n (bytes_of start before) ≡ take n o.line ++ take m (held now) =
    ap (take n) parts ∙ take-append n o.line (held now ++ left) ∙ ap (λ k. take n o.line ++ take k (held now ++ left)) room
    ∙ ap (λ l. take n o.line ++ l) (take-append-le m (held now) left few) in
    let size : length (bytes_of start before) ≡ length o.line + (length (held now) + length left) =
    ap length parts ∙ length-append o.line (held now ++ left) ∙ ap (λ k. length o.line + k) (length-append (held now) left) in
    record {
      none = subst HasNoNewline (sym front) (HasNoNewline-append (take n o.line) (take m (held now)) (HasNoNewline-take n o.line o.none) p.none);
      longer = omega (arith, size, p.longer, o.passed);
    }

pub failed_answers : (tells : Bool) (start now mid : Reader) (before left later : List ℕ) → IsOpen tells start now before left → now.ended ≡ false → GoesOn now mid → later ≡ left → IsTrue tells
    → IsOpenLine (bytes_of start before) later
failed_answers tells start now mid before left later o goes_on g same told =
    let rest : bytes_of now left ≡ held now ++ later = cond-false _ _ _ goes_on ∙ ap (λ l. held now ++ l) (sym same) in
    record {
      line = o.line ++ held now;
      parts = o.bytes told ∙ ap (λ l. o.line ++ l) rest ∙ sym (append_assoc o.line (held now) later);
      none = HasNoNewline-append o.line (held now) o.none g.none;
    }

-- a reader whose input has ended pulls nothing
pub began_open : (start now : Reader) → (NeedsNoPull start → now ≡ start) → now.ended ≡ false → start.ended ≡ false
began_open start now same goes_on = elim (cases_Bool start.ended) [
  | inl over ↦ absurd (both_ways now.ended goes_on (ap (λ (r : Reader). r.ended) (same (inl over)) ∙ over))
  | inr open_still ↦ open_still
]

-- ---- how many bytes are passed

pub line_passes : (tells : Bool) (start now new : Reader) (next : NextLine) (before left : List ℕ) → IsOpen tells start now before left → EndsLine now new next → start.passed < new.passed
line_passes tells start now new next before left o e =
    let after : new.passed ≡ now.passed + (length e.line + 1) = ap (λ (r : Reader). r.passed) e.after in
    omega (arith, after, o.passed)

pub last_passes : (tells : Bool) (start now : Reader) (before left : List ℕ) → IsOpen tells start now before left → (last_measured now.line ≡ End) ⊎ (start.passed < now.passed)
last_passes tells start now before left o = by o.line o.kept o.passed
  where
    by : (line : List ℕ) → now.line ≡ take KEPT line → now.passed ≡ start.passed + length line → (last_measured now.line ≡ End) ⊎ (start.passed < now.passed)
    by [] kept passed = inl (ap last_measured kept)
    by (b ∷ bs) kept passed = inr (omega (arith, passed))

-- ---- the next piece

pub open_on : (tells : Bool) (start now mid new : Reader) (before left later : List ℕ) → IsOpen tells start now before left → now.ended ≡ false → GoesOn now mid
    → (IsTrue tells → left ≡ bytes_of new later) → new.line ≡ mid.line → new.passed ≡ mid.passed → IsOpen tells start new before later
open_on tells start now mid new before left later o goes_on g bytes line passed =
    let all : take (length (held now)) (held now) ≡ held now = take_all (length (held now)) (held now) (omega arith) in
    let kept : new.line ≡ take KEPT (o.line ++ held now) =
    line ∙ ap (λ (r : Reader). r.line) g.after ∙ ap (λ l. take KEPT (now.line ++ l)) all ∙ ap (λ l. take KEPT (l ++ held now)) o.kept ∙ keep_again KEPT o.line (held now) in
    let after : mid.passed ≡ now.passed + length (held now) = ap (λ (r : Reader). r.passed) g.after in
    let size : length (o.line ++ held now) ≡ length o.line + length (held now) = length-append o.line (held now) in
    record {
      line = o.line ++ held now;
      none = HasNoNewline-append o.line (held now) o.none g.none;
      kept = kept;
      passed = omega (arith, passed, after, size, o.passed);
      bytes = λ told. o.bytes told ∙ ap (λ l. o.line ++ l) (cond-false _ _ _ goes_on ∙ ap (λ l. held now ++ l) (bytes told))
          ∙ sym (append_assoc o.line (held now) (bytes_of new later));
    }

pub needs_a_pull : (r : Reader) → r.ended ≡ false → HasNoNewline (held r) → NeedsNoPull r → ⊥
needs_a_pull r goes_on none (inl over) = both_ways r.ended goes_on over
needs_a_pull r goes_on none (inr has) = All-contains (λ b. b ≢ 10) (held r) 10 none.each has refl

-- what a refusal says, where no line was found among the bytes that are held
pub stop_answers : (tells : Bool) (start now new : Reader) (before left : List ℕ) (stop : StreamStop) → IsOpen tells start now before left → now.ended ≡ false → Looks now new (Err stop) → IsTrue tells
    → (line : List ℕ) (after : Stream) → Answers (Err stop) line (stream_of start before) after left
stop_answers tells start now new before left TooLong o goes_on h told line after = past_answers tells start now new before left o goes_on h told
stop_answers tells start now new before left Failed o goes_on h told line after = absurd h
