-- A journal that is written is read again.
use Rattle.std.proofs.Common.{◌≡◌, ℕ, zero, suc, ◌+◌, ◌^◌, ◌<◌, ◌≤◌, Bool, true, cond, not, ◌&&◌, nat_eq, nat_le, List, [], ◌∷◌, ◌++◌, length, length-append, take, drop, append_assoc, flat_map, Result, Ok, Err, refl, sym, ap, subst, ◌∙◌, eq-eqb, arith}
use Rattle.std.specs.Prelude.{◌==◌}
use Rattle.std.specs.List.{AllByRecursion}
use Rattle.std.specs.Cmp.Lexicographic.{pointwise}
use Rattle.std.proofs.lemmas.Bool.{le-leb}
use Rattle.std.proofs.lemmas.Grind.{flat_map-append}
use Rattle.std.proofs.lemmas.List.{append-nil}
use Rattle.std.proofs.lemmas.List.Sums.{count_by-le-length}
use Rattle.viz_kinds.specs.Values.{is_text}
use Rattle.viz_network.specs.declared.edit.Edit.{Edit}
use Rattle.viz_network.specs.declared.edit.Edit.TheVariants as edit
use Rattle.viz_network.specs.History.{net_of}
use Rattle.viz_words.specs.declared.refusal.ScriptRefusal.{ScriptRefusal}
use Rattle.viz_words.specs.declared.refusal.ScriptRefusal.TheVariants as refusal
use Rattle.viz_words.specs.Gives.{◌>>=◌, guard}
use Rattle.viz_words.specs.Lines.{begins_newline}
use Rattle.viz_journal.specs.declared.line.Head.{Head}
use Rattle.viz_journal.specs.declared.line.Line.TheVariants as line
use Rattle.viz_journal.specs.declared.entry.JournalEntry.{JournalEntry}
use Rattle.viz_journal.specs.declared.version.Version.{Version}
use Rattle.viz_journal.specs.declared.version.Version.TheVariants as version
use Rattle.viz_journal.specs.Journal.{edit_line, file_text, edit_text, batch_line, lead, entry_text, first_line, last_line, journal, journal_in}
use Rattle.viz_journal.specs.Parts.{is_there, is_closed, rest_of, edit_of}
use Rattle.viz_journal.specs.Entries.{edit_limit, edits_of, entries_by, is_counted, is_accepted, entry}
use Rattle.viz_journal.specs.Edits.{is_spelled, edit_at, Stop, Batched, batch_from}
use Rattle.viz_journal.specs.Reading.{single_at, head_at, with_batch, with_head, journal_from, journal_read}
use Rattle.viz_journal.specs.Fits.{FitsEdit, FitsVersion, FitsEntry, AreEntries, Fits}
use Rattle.viz_journal.proofs.PartLemmas.{part}
use Rattle.viz_journal.proofs.ReadLemmas.{batch_from-edit, journal_from-line, journal_from-single}
use Rattle.viz_journal.proofs.SolidLemmas.{part-plain}
use Rattle.viz_journal.proofs.AgainLemmas.{accepted-value}
use Rattle.viz_journal.proofs.BatchLemmas.{AreAccepted, each-accepted}
use Rattle.viz_journal.proofs.LineLemmas.{draft_for, told_for, head_for, HasValue, edit-again, single-again, head-again, last-again}
use Rattle.viz_journal.proofs.EntriesLemmas.{tail_of, only}

text-same : (xs : List ℕ) → pointwise nat_eq xs xs ≡ true
text-same [] = refl
text-same (x ∷ xs) = ap (λ b. b && pointwise nat_eq xs xs) (eq-eqb x x refl) ∙ text-same xs

take-front : (bs rest : List ℕ) → take (length bs) (bs ++ rest) ≡ bs
take-front [] rest = refl
take-front (b ∷ bs) rest = ap (λ l. b ∷ l) (take-front bs rest)

drop-front : (bs rest : List ℕ) → drop (length bs) (bs ++ rest) ≡ rest
drop-front [] rest = refl
drop-front (b ∷ bs) rest = drop-front bs rest

drop-more : (bs rest : List ℕ) (c : ℕ) → drop (length bs + 1) (bs ++ c ∷ rest) ≡ rest
drop-more bs rest c = ap (λ m. drop m (bs ++ c ∷ rest)) (let e : length bs + 1 ≡ suc (length bs) = omega arith in e) ∙ by bs
  where
    by : (bs : List ℕ) → drop (suc (length bs)) (bs ++ c ∷ rest) ≡ rest
    by [] = refl
    by (b ∷ bs) = by bs

-- ---- edits

-- the bytes of a load are found behind its line
file-again : (e : Edit) (rest : List ℕ) → (is_there (draft_for e) (file_text e ++ rest) ≡ true) × (is_closed (draft_for e) (file_text e ++ rest) ≡ true)
    × (edit_of (draft_for e) (file_text e ++ rest) ≡ e) × (rest_of (draft_for e) (file_text e ++ rest) ≡ rest)
file-again (edit.Add kind node) rest = (refl, refl, refl, refl)
file-again (edit.Remove node) rest = (refl, refl, refl, refl)
file-again (edit.Connect from to port) rest = (refl, refl, refl, refl)
file-again (edit.Disconnect to port) rest = (refl, refl, refl, refl)
file-again (edit.Set node param value) rest = (refl, refl, refl, refl)
file-again (edit.Load node file) rest =
    let whole : (file ++ 10 ∷ []) ++ rest ≡ file ++ 10 ∷ rest = append_assoc file (10 ∷ []) rest in (
      le-leb (length file) (length ((file ++ 10 ∷ []) ++ rest)) (omega (arith, ap length whole, length-append file (10 ∷ rest))),
      ap (λ l. begins_newline (drop (length file) l)) whole ∙ ap begins_newline (drop-front file (10 ∷ rest)),
      ap (λ l. edit.Load node (take (length file) l)) whole ∙ ap (λ l. edit.Load node l) (take-front file (10 ∷ rest)),
      ap (drop (length file + 1)) whole ∙ drop-more file rest 10,
    )

has-value : (e : Edit) (before : List Edit) → is_accepted before e ≡ true → HasValue e
has-value (edit.Set node param value) before h = accepted-value (length before + 1) node param value (net_of before) h
has-value (edit.Add kind node) before h = tt
has-value (edit.Remove node) before h = tt
has-value (edit.Connect from to port) before h = tt
has-value (edit.Disconnect to port) before h = tt
has-value (edit.Load node file) before h = tt

-- the edit of its line
edit_at-again : (before : List Edit) (front : List ℕ) (e : Edit) (rest : List ℕ) → is_accepted before e ≡ true
    → edit_at before front (part (front ++ edit_line e) true (file_text e ++ rest)) (draft_for e) ≡ Ok e
unfolding edit_at
edit_at-again before front e rest accepted =
    let at = part (front ++ edit_line e) true (file_text e ++ rest) in
    let d = draft_for e in
    let file = file-again e rest in
    let made = edit_of d at.rest in
    let done : Result Edit ScriptRefusal = Ok made in
    let spelled : is_spelled at (front ++ edit_line made) ≡ true = ap (λ (x : Edit). is_spelled at (front ++ edit_line x)) file.2 ∙ text-same (front ++ edit_line e) in
    let taken : is_accepted before made ≡ true = ap (λ (x : Edit). is_accepted before x) file.2 ∙ accepted in
    let s3 : Bool → Result Edit ScriptRefusal = λ b. guard b refusal.Edit >>= λ a. done in
    let s2 : Bool → Result Edit ScriptRefusal = λ b. guard b refusal.Word >>= λ s. s3 (is_accepted before made) in
    let s1 : Bool → Result Edit ScriptRefusal = λ b. guard b refusal.Word >>= λ c. s2 (is_spelled at (front ++ edit_line made)) in
    ap (λ b. guard b refusal.Number >>= λ t. s1 (is_closed d at.rest)) file.0 ∙ ap s1 file.1 ∙ ap s2 spelled ∙ ap s3 taken ∙ ap (λ (x : Edit). Ok x) file.2

-- an edit and what is behind it, as a line and what is behind that
edit-parts : (front : List ℕ) (e : Edit) (rest : List ℕ) → (front ++ edit_text e) ++ rest ≡ (front ++ edit_line e) ++ 10 ∷ (file_text e ++ rest)
edit-parts front e rest =
    append_assoc front (edit_text e) rest ∙ ap (λ l. front ++ l) (append_assoc (edit_line e) (10 ∷ file_text e) rest) ∙ sym (append_assoc front (edit_line e) (10 ∷ (file_text e ++ rest)))

-- the edits of a batch
batch-again : (n : ℕ) (before batch edits : List Edit) (rest : List ℕ) → AreAccepted (before ++ batch) edits → AllByRecursion FitsEdit edits
    → batch_from (length edits) n before batch (flat_map edit_text edits ++ rest) ≡ Ok (batch ++ edits, rest)
unfolding batch_from
batch-again n before batch [] rest accepted fits = ap (λ (l : List Edit). Ok (l, rest)) (sym (append-nil batch))
batch-again n before batch (e ∷ edits) rest accepted fits =
    let behind = flat_map edit_text edits ++ rest in
    let whole : flat_map edit_text (e ∷ edits) ++ rest ≡ edit_line e ++ 10 ∷ (file_text e ++ behind) = append_assoc (edit_text e) (flat_map edit_text edits) rest ∙ edit-parts [] e behind in
    let says = edit-again e fits.0 (has-value e (before ++ batch) accepted.0) in
    let later : AreAccepted (before ++ (batch ++ e ∷ [])) edits = subst (λ es. AreAccepted es edits) (append_assoc before batch (e ∷ [])) accepted.1 in
    ap (batch_from (suc (length edits)) n before batch) whole
    ∙ batch_from-edit (length edits) n before batch (batch ++ e ∷ []) (edit_line e ++ 10 ∷ (file_text e ++ behind)) behind (part (edit_line e) true (file_text e ++ behind)) (draft_for e) e
    (part-plain (edit_line e) (file_text e ++ behind) says.0) says.1 (edit_at-again (before ++ batch) [] e behind accepted.0) refl (sym ((file-again e behind).3))
    ∙ batch-again (n + 1) before (batch ++ e ∷ []) edits rest later fits.1
    ∙ ap (λ (l : List Edit). Ok (l, rest)) (append_assoc batch (e ∷ []) edits)

-- ---- entries

is-counted : (actor count many : ℕ) (before : List JournalEntry) → count ≡ entries_by actor before + 1 → length (edits_of before) + many ≤ edit_limit → is_counted actor count many before ≡ true
is-counted actor count many before is room =
    ap (λ b. b && nat_le (length (edits_of before) + many) edit_limit) (eq-eqb count (entries_by actor before + 1) is) ∙ le-leb (length (edits_of before) + many) edit_limit room

count-small : (before : List JournalEntry) (actor count : ℕ) → count ≡ entries_by actor before + 1 → length before ≤ edit_limit → count < 2 ^ 32
count-small before actor count is short = omega (arith, is, count_by-le-length (λ (x : JournalEntry). x.actor == actor) before, short)

-- the entry of its line in version 1
single_at-again : (before : List JournalEntry) (a c : ℕ) (e : Edit) (rest : List ℕ) → c ≡ entries_by a before + 1 → length (edits_of before) + 1 ≤ edit_limit → is_accepted (edits_of before) e ≡ true
    → single_at before (part (lead a c ++ edit_line e) true (file_text e ++ rest)) (told_for a c e) ≡ Ok (entry a c (e ∷ []))
unfolding single_at
single_at-again before a c e rest counted room accepted =
    let at = part (lead a c ++ edit_line e) true (file_text e ++ rest) in
    let done : Edit → Result JournalEntry ScriptRefusal = λ x. Ok (entry a c (x ∷ [])) in
    ap (λ b. guard b refusal.Number >>= λ t. edit_at (edits_of before) (lead a c) at (draft_for e) >>= done) (is-counted a c 1 before counted room)
    ∙ ap (λ (r : Result Edit ScriptRefusal). r >>= done) (edit_at-again (edits_of before) (lead a c) e rest accepted)

-- the line in front of a batch
head_at-again : (before : List JournalEntry) (a c n : ℕ) (rest : List ℕ) → c ≡ entries_by a before + 1 → length (edits_of before) + n ≤ edit_limit
    → head_at before (part (batch_line a c n) true rest) (head_for a c n) ≡ Ok (head_for a c n)
unfolding head_at
head_at-again before a c n rest counted room =
    let at = part (batch_line a c n) true rest in
    let done : Result Head ScriptRefusal = Ok (head_for a c n) in
    ap (λ b. guard b refusal.Number >>= λ t. guard (is_spelled at (batch_line a c n)) refusal.Word >>= λ s. done) (is-counted a c n before counted room)
    ∙ ap (λ b. guard b refusal.Word >>= λ s. done) (text-same (batch_line a c n))

-- the lines of an entry are read, and what is behind them
abbrev GoesOver : Version → ℕ → List JournalEntry → JournalEntry → Type 0
GoesOver v n before e = (m : ℕ) × ((k : ℕ) (rest : List ℕ) → journal_from v (suc k) n before (entry_text v e ++ rest) ≡ journal_from v k m (before ++ e ∷ []) rest)

over-single : (n : ℕ) (before : List JournalEntry) (a c : ℕ) (e : Edit) → FitsEntry version.One before (entry a c (e ∷ [])) → length (edits_of before) + 1 ≤ edit_limit → length before ≤ edit_limit
    → GoesOver version.One n before (entry a c (e ∷ []))
over-single n before a c e fits room short =
    let accepted = (each-accepted (edits_of before) (e ∷ []) fits.accepted).0 in
    let says = single-again a c e fits.actor (count-small before a c fits.count short) fits.edits.0 (has-value e (edits_of before) accepted) in (
      n + 1,
      λ k rest.
          let line_text = lead a c ++ edit_line e in
          let behind = file_text e ++ rest in
          let whole : entry_text version.One (entry a c (e ∷ [])) ++ rest ≡ line_text ++ 10 ∷ behind = ap (λ l. l ++ rest) (append-nil (lead a c ++ edit_text e)) ∙ edit-parts (lead a c) e rest in
          ap (journal_from version.One (suc k) n before) whole
          ∙ journal_from-single version.One k n (n + 1) before (before ++ entry a c (e ∷ []) ∷ []) (line_text ++ 10 ∷ behind) rest (part line_text true behind) (told_for a c e) (entry a c (e ∷ []))
          (part-plain line_text behind says.0) says.1 (single_at-again before a c e rest fits.count room accepted) refl refl (sym ((file-again e rest).3)),
    )

over-one : (n : ℕ) (before : List JournalEntry) (e : JournalEntry) → FitsEntry version.One before e → length (edits_of before) + length e.batch ≤ edit_limit → length before ≤ edit_limit
    → GoesOver version.One n before e
over-one n before e fits room short = by e.batch refl
  where
    by : (batch : List Edit) → e.batch ≡ batch → GoesOver version.One n before e
    by [] is = absurd (omega (arith, ap length is, fits.version))
    by (x ∷ y ∷ batch) is = absurd (omega (arith, ap length is, fits.version))
    by (x ∷ []) is =
        let made : e ≡ entry e.actor e.count (x ∷ []) = ap (entry e.actor e.count) is in
        subst (GoesOver version.One n before) (sym made)
        (over-single n before e.actor e.count x (subst (FitsEntry version.One before) made fits) (omega (arith, ap length is, room)) short)

over-two : (n : ℕ) (before : List JournalEntry) (e : JournalEntry) → FitsEntry version.Two before e → length (edits_of before) + length e.batch ≤ edit_limit → length before ≤ edit_limit
    → GoesOver version.Two n before e
over-two n before e fits room short =
    let many = length e.batch in
    let head = head_for e.actor e.count many in
    let front = batch_line e.actor e.count many in
    let says = head-again e.actor e.count many fits.actor (count-small before e.actor e.count fits.count short) fits.version.some fits.version.few in
    let accepted = each-accepted (edits_of before) e.batch fits.accepted in
    let all : AreAccepted (edits_of before ++ []) e.batch = subst (λ es. AreAccepted es e.batch) (sym (append-nil (edits_of before))) accepted in (
      n + 1 + many,
      λ k rest.
          let next = journal_from version.Two k in
          let behind = flat_map edit_text e.batch ++ rest in
          let whole : entry_text version.Two e ++ rest ≡ front ++ 10 ∷ behind = append_assoc front (10 ∷ flat_map edit_text e.batch) rest in
          ap (journal_from version.Two (suc k) n before) whole
          ∙ journal_from-line version.Two k n before (front ++ 10 ∷ behind) (part front true behind) (Ok (line.Batch head)) (part-plain front behind says.0) says.1
          ∙ ap (λ (r : Result Head ScriptRefusal). with_head n next before r behind) (head_at-again before e.actor e.count many behind fits.count room)
          ∙ ap (λ (r : Result Batched Stop). with_batch n next before head r) (batch-again (n + 1) (edits_of before) [] e.batch rest all fits.edits),
    )

over : (v : Version) (n : ℕ) (before : List JournalEntry) (e : JournalEntry) → FitsEntry v before e → length (edits_of before) + length e.batch ≤ edit_limit → length before ≤ edit_limit
    → GoesOver v n before e
over version.One n before e fits room short = over-one n before e fits room short
over version.Two n before e fits room short = over-two n before e fits room short

-- the last line ends the journal
end-again : (v : Version) (k n : ℕ) (before : List JournalEntry) → length before ≤ edit_limit → journal_from v (suc k) n before (tail_of before) ≡ Ok before
end-again v k n before few =
    let m = length before in
    let last = last-again v m (omega (arith, few)) in
    let at = part (last_line m) true [] in
    journal_from-line v k n before (last_line m ++ 10 ∷ []) at (Ok (line.Last m)) (part-plain (last_line m) [] last.0) last.1
    ∙ ap (λ b. cond (not b) (Err (n, refusal.Number)) (cond (not (is_text (last_line m) (last_line m))) (Err (n, refusal.Word)) (Ok before))) (eq-eqb m m refl)
    ∙ ap (λ b. cond (not b) (Err (n, refusal.Word)) (Ok before)) (text-same (last_line m))

again-from : (v : Version) (k n : ℕ) (before added entries : List JournalEntry) → entries ≡ before ++ added → AreEntries v before added → length (edits_of entries) ≤ edit_limit
    → length entries ≤ edit_limit → length (flat_map (entry_text v) added ++ tail_of entries) ≤ k → journal_from v k n before (flat_map (entry_text v) added ++ tail_of entries) ≡ Ok entries
again-from v zero n before [] entries are fits few short enough = absurd (omega (arith, length-append (last_line (length entries)) (10 ∷ []), enough))
again-from v (suc k) n before [] entries are fits few short enough =
    let same : entries ≡ before = are ∙ append-nil before in
    ap (λ (es : List JournalEntry). journal_from v (suc k) n before (tail_of es)) same
    ∙ end-again v k n before (omega (arith, ap length same, short)) ∙ ap (λ (es : List JournalEntry). Ok es) (sym same)
again-from v zero n before (e ∷ added) entries are fits few short enough =
    absurd (omega (arith, length-append (entry_text v e ++ flat_map (entry_text v) added) (tail_of entries), length-append (last_line (length entries)) (10 ∷ []), enough))
again-from v (suc k) n before (e ∷ added) entries are fits few short enough =
    let rest = flat_map (entry_text v) added ++ tail_of entries in
    let whole : flat_map (entry_text v) (e ∷ added) ++ tail_of entries ≡ entry_text v e ++ rest = append_assoc (entry_text v e) (flat_map (entry_text v) added) (tail_of entries) in
    let edits : length (edits_of entries) ≡ length (edits_of before) + (length e.batch + length (edits_of added)) =
    ap (λ (es : List JournalEntry). length (edits_of es)) are ∙ ap length (flat_map-append (λ (x : JournalEntry). x.batch) before (e ∷ added))
    ∙ length-append (edits_of before) (edits_of (e ∷ added)) ∙ ap (λ m. length (edits_of before) + m) (length-append e.batch (edits_of added)) in
    let long : length entries ≡ length before + suc (length added) = ap length are ∙ length-append before (e ∷ added) in
    let goes = over v n before e fits.0 (omega (arith, edits, few)) (omega (arith, long, short)) in
    let less : length rest ≤ k = omega (arith, ap length whole, length-append (entry_text v e) rest, some-text v e fits.0, enough) in
    ap (journal_from v (suc k) n before) whole ∙ goes.1 k rest
    ∙ again-from v k goes.0 (before ++ e ∷ []) added entries (are ∙ sym (append_assoc before (e ∷ []) added)) fits.1 few short less
  where
    some-text : (v : Version) (e : JournalEntry) → FitsEntry v before e → 0 < length (entry_text v e)
    some-text version.Two e f = omega (arith, length-append (batch_line e.actor e.count (length e.batch)) (10 ∷ flat_map edit_text e.batch))
    some-text version.One e f = by e.batch f.version
      where
        by : (batch : List Edit) → length batch ≡ 1 → 0 < length (flat_map (λ x. lead e.actor e.count ++ edit_text x) batch)
        by [] h = absurd (omega (arith, h))
        by (x ∷ batch) h =
            omega (arith, length-append (lead e.actor e.count ++ edit_text x) (flat_map (λ x. lead e.actor e.count ++ edit_text x) batch), length-append (lead e.actor e.count) (edit_text x), length-append (edit_line x) (10 ∷ file_text x))

-- an entry has an edit
some-edit : (v : Version) (batch : List Edit) → FitsVersion v batch → 1 ≤ length batch
some-edit version.One batch f = omega (arith, f)
some-edit version.Two batch f = f.some

-- there are no more entries than edits
entries-few : (v : Version) (before added : List JournalEntry) → AreEntries v before added → length added ≤ length (edits_of added)
entries-few v before [] fits = omega arith
entries-few v before (e ∷ added) fits =
    omega (arith, length-append e.batch (edits_of added), some-edit v e.batch fits.0.version, entries-few v (before ++ e ∷ []) added fits.1)

pub again : (v : Version) (entries : List JournalEntry) → Fits v entries → journal_read (journal_in v entries) ≡ Ok entries
again version.One entries fits =
    let rest = flat_map (entry_text version.One) entries ++ tail_of entries in
    let whole : journal_in version.One entries ≡ first_line version.One ++ rest = append_assoc (first_line version.One) (flat_map (entry_text version.One) entries) (tail_of entries) in
    ap journal_read whole ∙ again-from version.One (length rest) 2 [] entries entries refl fits.each fits.few (omega (arith, entries-few version.One [] entries fits.each, fits.few)) (omega arith)
again version.Two entries fits =
    let rest = flat_map (entry_text version.Two) entries ++ tail_of entries in
    let whole : journal_in version.Two entries ≡ first_line version.Two ++ rest = append_assoc (first_line version.Two) (flat_map (entry_text version.Two) entries) (tail_of entries) in
    ap journal_read whole ∙ again-from version.Two (length rest) 2 [] entries entries refl fits.each fits.few (omega (arith, entries-few version.Two [] entries fits.each, fits.few)) (omega arith)

-- ---- what is read, in either version, is written and read again

-- what a journal of a version can have, one of version 2 can
entries-two : (v : Version) (before added : List JournalEntry) → AreEntries v before added → AreEntries version.Two before added
entries-two v before [] fits = tt
entries-two v before (e ∷ added) fits = (two v e fits.0, entries-two v (before ++ e ∷ []) added fits.1)
  where
    two : (v : Version) (e : JournalEntry) → FitsEntry v before e → FitsEntry version.Two before e
    two version.Two e f = f
    two version.One e f = record {
      actor = f.actor;
      count = f.count;
      version = record { some = omega (arith, f.version); few = omega (arith, f.version) };
      edits = f.edits;
      accepted = f.accepted;
    }

pub written-again : (bytes : List ℕ) (entries : List JournalEntry) → journal_read bytes ≡ Ok entries → journal_read (journal entries) ≡ Ok entries
written-again bytes entries h =
    let is = only bytes entries h in
    again version.Two entries (record { few = is.2.few; each = entries-two is.0 [] entries is.2.each })
