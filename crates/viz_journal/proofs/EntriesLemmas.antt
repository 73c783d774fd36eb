-- What is read as a journal is the text of entries that a journal can have.
use Rattle.std.proofs.Common.{◌≡◌, ℕ, zero, suc, ◌+◌, ◌^◌, ◌<◌, ◌≤◌, Bool, true, false, cond, not, List, [], ◌∷◌, ◌++◌, length, length-append, take, drop, append_assoc, flat_map, Option, Some, None, Result, Ok, Err, refl, sym, ap, subst, ◌∙◌, eqb-true, arith}
use Rattle.std.specs.Prelude.{◌==◌, codes, ok_or}
use Rattle.std.specs.List.{AllByRecursion}
use Rattle.std.proofs.lemmas.List.{append-nil, take-append-drop}
use Rattle.viz_kinds.specs.Values.{is_text}
use Rattle.viz_network.specs.declared.edit.Edit.{Edit}
use Rattle.viz_words.specs.declared.refusal.ScriptRefusal.{ScriptRefusal}
use Rattle.viz_words.specs.declared.refusal.ScriptRefusal.TheVariants as refusal
use Rattle.viz_words.specs.declared.command.Verb.{Verb}
use Rattle.viz_words.specs.Gives.{◌>>=◌}
use Rattle.viz_words.specs.Lines.{is_plain}
use Rattle.viz_words.specs.Words.{words_of}
use Rattle.viz_words.specs.Numbers.{number_of, natural_in}
use Rattle.viz_words.specs.Commands.{verb_of, due, one, two}
use Rattle.viz_batches.specs.Batches.{batch_limit}
use Rattle.viz_journal.specs.declared.draft.Draft.{Draft}
use Rattle.viz_journal.specs.declared.line.Told.{Told}
use Rattle.viz_journal.specs.declared.line.Head.{Head}
use Rattle.viz_journal.specs.declared.line.Line.{Line}
use Rattle.viz_journal.specs.declared.line.Line.TheVariants as line
use Rattle.viz_journal.specs.declared.entry.JournalEntry.{JournalEntry}
use Rattle.viz_journal.specs.declared.version.Version.{Version}
use Rattle.viz_journal.specs.declared.version.Version.TheVariants as version
use Rattle.viz_journal.specs.Journal.{edit_line, file_text, edit_text, batch_line, lead, entry_text, first_line, last_line, journal_in}
use Rattle.viz_journal.specs.Lines.{greatest, journal_verb, draft_in, commanded, draft_words, draft_of, behind_verb, told_in, head_in, last_in, entry_in, words_in, line_in}
use Rattle.viz_journal.specs.Parts.{Part, part_of, rest_of}
use Rattle.viz_journal.specs.Entries.{edit_limit, edits_of, is_counted, entry}
use Rattle.viz_journal.specs.Edits.{is_spelled, edit_at, edited, drafted, Stop, Batched, batch_from}
use Rattle.viz_journal.specs.Reading.{single_at, head_at, with_single, with_batch, with_head, ends, last_at, judged, journal_from, version_of, read_behind, journal_read}
use Rattle.viz_journal.specs.Fits.{FitsEdit, FitsEntry, AreEntries, IsJournalOf}
use Rattle.viz_journal.proofs.LedgerLemmas.{edits-more}
use Rattle.viz_journal.proofs.OnlyLemmas.{same-text, guarded, bind-ok, part-is, spelled-is, IsRead, edit-is, counted-is, IsHead, head-is}
use Rattle.viz_journal.proofs.BatchLemmas.{AreAccepted, all-accepted}
use Rattle.viz_journal.proofs.FitLemmas.{natural-is, FitsDraft, draft-is, edit-fits}

-- ---- what lines say

commanded-is : (word : List ℕ) (words : List (List ℕ)) (d : Draft) → commanded word words ≡ Ok d → FitsDraft d
unfolding commanded
commanded-is word words d h =
    let a = bind-ok (verb_of (word ∷ words)) (λ any. journal_verb any >>= λ known. draft_in known words) d h in
    let b = bind-ok (journal_verb a.0) (λ known. draft_in known words) d a.2 in
    draft-is b.0 words d b.2

-- an edit of a batch can stand in a journal
draft-of : (text : List ℕ) (d : Draft) → draft_of text ≡ Ok d → FitsDraft d
draft-of text d h = by (words_of text) (guarded (is_plain text) refusal.Word (draft_words (words_of text)) d h).1
  where
    by : (words : List (List ℕ)) → draft_words words ≡ Ok d → FitsDraft d
    by [] g = let bad : ⊥ = cc g in absurd bad
    by (word ∷ words) g = commanded-is word words d g

-- a line tells an entry of its version alone, and its numbers are those of their types
abbrev IsLine : Version → Line → Type 0
IsLine v (line.Last count) = Unit {0}
IsLine version.One (line.Single told) = FitsDraft told.draft × (told.actor < 2 ^ 32)
IsLine version.Two (line.Single told) = ⊥
IsLine version.One (line.Batch head) = ⊥
IsLine version.Two (line.Batch head) = (head.actor < 2 ^ 32) × (1 ≤ head.edits) × (head.edits ≤ 64)

told-is : (word : List ℕ) (words : List (List ℕ)) (told : Told) → told_in word words ≡ Ok told → FitsDraft told.draft × (told.actor < 2 ^ 32)
unfolding told_in
told-is word words told h =
    let s7 : Draft → ℕ → Result Told ScriptRefusal = λ drafted count. natural_in 0 greatest word >>= λ actor. Ok (record { actor = actor; count = count; draft = drafted }) in
    let s6 : List ℕ → Draft → Result Told ScriptRefusal = λ counted drafted. natural_in 0 greatest counted >>= λ count. s7 drafted count in
    let s5 : Verb → List ℕ → List (List ℕ) → Result Told ScriptRefusal = λ known counted tail. draft_in known tail >>= s6 counted in
    let s4 : Verb → (List ℕ × List (List ℕ)) → Result Told ScriptRefusal = λ known counted. due counted.1 >>= λ command. s5 known counted.0 command.1 in
    let s3 : Verb → Result Told ScriptRefusal = λ known. due words >>= s4 known in
    let s2 : Verb → Result Told ScriptRefusal = λ any. journal_verb any >>= s3 in
    let n = bind-ok (ok_or (number_of word) refusal.Word) (λ number. behind_verb words >>= s2) told h in
    let a = bind-ok (behind_verb words) s2 told n.2 in
    let k = bind-ok (journal_verb a.0) s3 told a.2 in
    let c = bind-ok (due words) (s4 k.0) told k.2 in
    let m = bind-ok (due c.0.1) (λ command. s5 k.0 c.0.0 command.1) told c.2 in
    let d = bind-ok (draft_in k.0 m.0.1) (s6 c.0.0) told m.2 in
    let t = bind-ok (natural_in 0 greatest c.0.0) (s7 d.0) told d.2 in
    let x = bind-ok (natural_in 0 greatest word) (λ actor. Ok (record { actor = actor; count = t.0; draft = d.0 })) told t.2 in
    let made : Told = record { actor = x.0; count = t.0; draft = d.0 } in
    let same : made ≡ told = cc x.2 in
    let low = natural-is 0 greatest x.0 word x.1 in
    subst (λ (y : Told). FitsDraft y.draft × (y.actor < 2 ^ 32)) same (draft-is k.0 m.0.1 d.0 d.1, omega (arith, low.1))

heads-is : (word : List ℕ) (words : List (List ℕ)) (head : Head) → head_in word words ≡ Ok head → (head.actor < 2 ^ 32) × (1 ≤ head.edits) × (head.edits ≤ 64)
unfolding head_in
heads-is word words head h =
    let s5 : ℕ → ℕ → Result Head ScriptRefusal = λ count edits. natural_in 0 greatest word >>= λ actor. Ok (record { actor = actor; count = count; edits = edits }) in
    let s4 : List ℕ → ℕ → Result Head ScriptRefusal = λ w count. natural_in 1 batch_limit w >>= λ edits. s5 count edits in
    let s3 : (List ℕ × List ℕ) → Result Head ScriptRefusal = λ w. natural_in 0 greatest w.0 >>= s4 w.1 in
    let n = bind-ok (ok_or (number_of word) refusal.Word) (λ number. two words >>= s3) head h in
    let w = bind-ok (two words) s3 head n.2 in
    let c = bind-ok (natural_in 0 greatest w.0.0) (s4 w.0.1) head w.2 in
    let e = bind-ok (natural_in 1 batch_limit w.0.1) (s5 c.0) head c.2 in
    let x = bind-ok (natural_in 0 greatest word) (λ actor. Ok (record { actor = actor; count = c.0; edits = e.0 })) head e.2 in
    let made : Head = record { actor = x.0; count = c.0; edits = e.0 } in
    let same : made ≡ head = cc x.2 in
    let low = natural-is 0 greatest x.0 word x.1 in
    let many = natural-is 1 batch_limit e.0 w.0.1 e.1 in
    subst (λ (y : Head). (y.actor < 2 ^ 32) × (1 ≤ y.edits) × (y.edits ≤ 64)) same (omega (arith, low.1), many.0, many.1)

entry-is : (v : Version) (word : List ℕ) (words : List (List ℕ)) (l : Line) → entry_in v word words ≡ Ok l → IsLine v l
entry-is version.One word words l h =
    let a = bind-ok (told_in word words) (λ told. Ok (line.Single told)) l h in
    let same : line.Single a.0 ≡ l = cc a.2 in
    subst (IsLine version.One) {x = line.Single a.0} same (told-is word words a.0 a.1)
entry-is version.Two word words l h =
    let a = bind-ok (head_in word words) (λ head. Ok (line.Batch head)) l h in
    let same : line.Batch a.0 ≡ l = cc a.2 in
    subst (IsLine version.Two) {x = line.Batch a.0} same (heads-is word words a.0 a.1)

last-in : (v : Version) (words : List (List ℕ)) (l : Line) → last_in words ≡ Ok l → IsLine v l
unfolding last_in
last-in v words l h =
    let a = bind-ok (one words) (λ word. natural_in 0 greatest word >>= λ count. Ok (line.Last count)) l h in
    let b = bind-ok (natural_in 0 greatest a.0) (λ count. Ok (line.Last count)) l a.2 in
    let same : line.Last b.0 ≡ l = cc b.2 in
    subst (IsLine v) {x = line.Last b.0} same tt

line-is : (v : Version) (text : List ℕ) (l : Line) → line_in v text ≡ Ok l → IsLine v l
line-is v text l h = by (words_of text) (guarded (is_plain text) refusal.Word (words_in v (words_of text)) l h).1
  where
    word_is : (word : List ℕ) (words : List (List ℕ)) (t : Bool) → cond t (last_in words) (entry_in v word words) ≡ Ok l → IsLine v l
    word_is word words true g = last-in v words l g
    word_is word words false g = entry-is v word words l g

    by : (words : List (List ℕ)) → words_in v words ≡ Ok l → IsLine v l
    by [] g = let bad : ⊥ = cc g in absurd bad
    by (word ∷ words) g = word_is word words (is_text word (codes "end")) g

-- ---- the edits of a batch

-- so many edits were read behind those of a batch: they are written so, accepted one by one, and a journal can have them
record ReadEdits (k : ℕ) (before batch : List Edit) (bytes : List ℕ) (made : List Edit) (left : List ℕ) : Type 0 where
  added : List Edit
  all : made ≡ batch ++ added
  long : length added ≡ k
  text : bytes ≡ flat_map edit_text added ++ left
  accepted : AreAccepted (before ++ batch) added
  fits : AllByRecursion FitsEdit added

-- the text of an edit in front of others
edit-front : (before : List Edit) (front bytes : List ℕ) (d : Draft) (e : Edit) (behind : List ℕ) → IsRead before front (part_of bytes) d e → rest_of d (part_of bytes).rest ≡ behind
    → bytes ≡ (front ++ edit_text e) ++ behind
edit-front before front bytes d e behind is more =
    let part = part_of bytes in
    part-is bytes is.ended ∙ ap (λ l. l ++ 10 ∷ part.rest) is.line ∙ ap (λ l. (front ++ edit_line e) ++ 10 ∷ l) (is.rest ∙ ap (λ l. file_text e ++ l) more)
    ∙ append_assoc front (edit_line e) (10 ∷ (file_text e ++ behind)) ∙ ap (λ l. front ++ l) (sym (append_assoc (edit_line e) (10 ∷ file_text e) behind)) ∙ sym (append_assoc front (edit_text e) behind)

batch-is : (k n : ℕ) (before batch : List Edit) (bytes : List ℕ) (made : List Edit) (left : List ℕ) → batch_from k n before batch bytes ≡ Ok (made, left) → ReadEdits k before batch bytes made left
unfolding batch_from
batch-is zero n before batch bytes made left h =
    let same : (batch, bytes) ≡ (made, left) = cc h in
    record { added = []; all = sym (ap (λ (p : Batched). p.0) same) ∙ sym (append-nil batch); long = refl; text = ap (λ (p : Batched). p.1) same; accepted = tt; fits = tt }
batch-is (suc k) n before batch bytes made left h = by (draft_of (part_of bytes).line) refl h (batch-is k (n + 1) before)
  where
    more : (d : Draft) (e : Edit) → draft_of (part_of bytes).line ≡ Ok d → edit_at (before ++ batch) [] (part_of bytes) d ≡ Ok e
        → ReadEdits k before (batch ++ e ∷ []) (rest_of d (part_of bytes).rest) made left → ReadEdits (suc k) before batch bytes made left
    more d e says got later =
        let is = edit-is (before ++ batch) [] (part_of bytes) d e got in
        let behind = flat_map edit_text later.added ++ left in
        record {
          added = e ∷ later.added;
          all = later.all ∙ append_assoc batch (e ∷ []) later.added;
          long = ap suc later.long;
          text = edit-front (before ++ batch) [] bytes d e behind is later.text ∙ sym (append_assoc (edit_text e) (flat_map edit_text later.added) left);
          accepted = (is.accepted, subst (λ es. AreAccepted es later.added) (sym (append_assoc before batch (e ∷ []))) later.accepted);
          fits = (subst FitsEdit is.edit (edit-fits d (part_of bytes).rest (draft-of (part_of bytes).line d says)), later.fits);
        }

    step : (d : Draft) → draft_of (part_of bytes).line ≡ Ok d → (r : Result Edit ScriptRefusal) → edit_at (before ++ batch) [] (part_of bytes) d ≡ r
        → edited n (batch_from k (n + 1) before) batch r (rest_of d (part_of bytes).rest) ≡ Ok (made, left)
        → ((batch : List Edit) (bytes : List ℕ) (made : List Edit) (left : List ℕ) → batch_from k (n + 1) before batch bytes ≡ Ok (made, left) → ReadEdits k before batch bytes made left)
        → ReadEdits (suc k) before batch bytes made left
    step d says (Err r) got f ih = let bad : ⊥ = cc f in absurd bad
    step d says (Ok e) got f ih = more d e says got (ih (batch ++ e ∷ []) (rest_of d (part_of bytes).rest) made left f)

    by : (said : Result Draft ScriptRefusal) → draft_of (part_of bytes).line ≡ said → drafted n (batch_from k (n + 1) before) before batch (part_of bytes) said ≡ Ok (made, left)
        → ((batch : List Edit) (bytes : List ℕ) (made : List Edit) (left : List ℕ) → batch_from k (n + 1) before batch bytes ≡ Ok (made, left) → ReadEdits k before batch bytes made left)
        → ReadEdits (suc k) before batch bytes made left
    by (Err r) says f ih = let bad : ⊥ = cc f in absurd bad
    by (Ok d) says f ih = step d says (edit_at (before ++ batch) [] (part_of bytes) d) refl f ih

-- ---- entries

-- the last line with its newline
abbrev pub tail_of : List JournalEntry → List ℕ
tail_of entries = last_line (length entries) ++ 10 ∷ []

-- the entries behind some were read: they are written so, and a journal can have them
record ReadEntries (v : Version) (before : List JournalEntry) (bytes : List ℕ) (entries : List JournalEntry) : Type 0 where
  added : List JournalEntry
  all : entries ≡ before ++ added
  text : bytes ≡ flat_map (entry_text v) added ++ tail_of entries
  few : length (edits_of entries) ≤ edit_limit
  fits : AreEntries v before added

-- an entry was read, and those behind it
one-more : (v : Version) (before : List JournalEntry) (bytes behind : List ℕ) (entries : List JournalEntry) (e : JournalEntry) → bytes ≡ entry_text v e ++ behind → FitsEntry v before e
    → ReadEntries v (before ++ e ∷ []) behind entries → ReadEntries v before bytes entries
one-more v before bytes behind entries e is fits later = record {
  added = e ∷ later.added;
  all = later.all ∙ append_assoc before (e ∷ []) later.added;
  text = is ∙ ap (λ l. entry_text v e ++ l) later.text ∙ sym (append_assoc (entry_text v e) (flat_map (entry_text v) later.added) (tail_of entries));
  few = later.few;
  fits = (fits, later.fits);
}

-- the last line ends the journal
last-is : (n : ℕ) (before entries : List JournalEntry) (part : Part) (count : ℕ) → last_at n before part count ≡ Ok entries
    → (entries ≡ before) × (part.ended ≡ true) × (part.line ++ 10 ∷ part.rest ≡ tail_of before)
last-is n before entries part count h = by (count == length before) refl (is_spelled part (last_line count)) refl part.rest refl h
  where
    by : (t : Bool) → (count == length before) ≡ t → (u : Bool) → is_spelled part (last_line count) ≡ u → (rest : List ℕ) → part.rest ≡ rest
        → cond (not t) (Err (n, refusal.Number)) (cond (not u) (Err (n, refusal.Word)) (ends (n + 1) before rest)) ≡ Ok entries
        → (entries ≡ before) × (part.ended ≡ true) × (part.line ++ 10 ∷ part.rest ≡ tail_of before)
    by false p u q rest r f = let bad : ⊥ = cc in absurd bad
    by true p false q rest r f = let bad : ⊥ = cc in absurd bad
    by true p true q (b ∷ bs) r f = let bad : ⊥ = cc in absurd bad
    by true p true q [] r f =
        let spelled = spelled-is part (last_line count) q in
        let many : count ≡ length before = eqb-true count (length before) p in
        let same : before ≡ entries = cc f in
        (sym same, spelled.0, ap (λ l. l ++ 10 ∷ part.rest) (spelled.1 ∙ ap last_line many) ∙ ap (λ l. last_line (length before) ++ 10 ∷ l) r)

-- what is known of an entry that was read
record IsEntry (v : Version) (before : List JournalEntry) (bytes behind : List ℕ) (e : JournalEntry) : Type 0 where
  text : bytes ≡ entry_text v e ++ behind
  few : length (edits_of (before ++ e ∷ [])) ≤ edit_limit
  fits : FitsEntry v before e

length-more : (before : List JournalEntry) (e : JournalEntry) → length (edits_of (before ++ e ∷ [])) ≡ length (edits_of before) + length e.batch
length-more before e = ap length (edits-more before e) ∙ length-append (edits_of before) e.batch

-- an entry of version 1
single-is : (before : List JournalEntry) (bytes : List ℕ) (told : Told) (e : JournalEntry) → FitsDraft told.draft → told.actor < 2 ^ 32 → single_at before (part_of bytes) told ≡ Ok e
    → IsEntry version.One before bytes (rest_of told.draft (part_of bytes).rest) e
unfolding single_at
single-is before bytes told e drafted small h =
    let part = part_of bytes in
    let front = lead told.actor told.count in
    let a = guarded (is_counted told.actor told.count 1 before) refusal.Number _ e h in
    let x = bind-ok (edit_at (edits_of before) front part told.draft) (λ x. Ok (entry told.actor told.count (x ∷ []))) e a.1 in
    let counted = counted-is told.actor told.count 1 before a.0 in
    let is = edit-is (edits_of before) front part told.draft x.0 x.1 in
    let behind = rest_of told.draft part.rest in
    let made = entry told.actor told.count (x.0 ∷ []) in
    let same : made ≡ e = cc x.2 in
    let fit : FitsEdit x.0 = subst FitsEdit is.edit (edit-fits told.draft part.rest drafted) in
    let known : IsEntry version.One before bytes behind made = record {
      text = edit-front (edits_of before) front bytes told.draft x.0 behind is refl ∙ ap (λ l. l ++ behind) (sym (append-nil (front ++ edit_text x.0)));
      few = omega (arith, length-more before made, counted.1);
      fits = record { actor = small; count = counted.0; version = refl; edits = (fit, tt); accepted = all-accepted (edits_of before) (x.0 ∷ []) (is.accepted, tt) };
    } in
    subst (IsEntry version.One before bytes behind) same known

-- an entry of version 2
entry-read : (before : List JournalEntry) (bytes : List ℕ) (head : Head) (batch : List Edit) (left : List ℕ) → head.actor < 2 ^ 32 → 1 ≤ head.edits → head.edits ≤ 64
    → IsHead before (part_of bytes) head → ReadEdits head.edits (edits_of before) [] (part_of bytes).rest batch left → IsEntry version.Two before bytes left (entry head.actor head.count batch)
entry-read before bytes head batch left small some few is read =
    let part = part_of bytes in
    let made = entry head.actor head.count batch in
    let same : read.added ≡ batch = sym read.all in
    let long : length batch ≡ head.edits = ap length (sym same) ∙ read.long in
    let front = batch_line head.actor head.count (length batch) in
    let accepted : AreAccepted (edits_of before) read.added = subst (λ es. AreAccepted es read.added) (append-nil (edits_of before)) read.accepted in
    record {
      text = part-is bytes is.ended ∙ ap (λ l. l ++ 10 ∷ part.rest) (is.line ∙ ap (batch_line head.actor head.count) (sym long))
          ∙ ap (λ l. front ++ 10 ∷ l) (read.text ∙ ap (λ (es : List Edit). flat_map edit_text es ++ left) same)
          ∙ sym (append_assoc front (10 ∷ flat_map edit_text batch) left);
      few = omega (arith, length-more before made, long, is.few);
      fits = record {
        actor = small;
        count = is.count;
        version = record { some = omega (arith, long, some); few = omega (arith, long, few) };
        edits = subst (AllByRecursion FitsEdit) same read.fits;
        accepted = all-accepted (edits_of before) batch (subst (AreAccepted (edits_of before)) same accepted);
      };
    }

-- what follows some entries is the text of further ones, and the last line
only-from : (v : Version) (k n : ℕ) (before : List JournalEntry) (bytes : List ℕ) (entries : List JournalEntry) → length (edits_of before) ≤ edit_limit → journal_from v k n before bytes ≡ Ok entries
    → ReadEntries v before bytes entries
unfolding journal_from
only-from v zero n before bytes entries few h = let bad : ⊥ = cc in absurd bad
only-from v (suc k) n before bytes entries few h = by (line_in v (part_of bytes).line) refl h (only-from v k)
  where
    Later : Type 0
    Later = (n : ℕ) (before : List JournalEntry) (bytes : List ℕ) (entries : List JournalEntry) → length (edits_of before) ≤ edit_limit → journal_from v k n before bytes ≡ Ok entries
        → ReadEntries v before bytes entries

    single : (u : Version) → u ≡ v → (told : Told) → IsLine u (line.Single told) → (r : Result JournalEntry ScriptRefusal) → single_at before (part_of bytes) told ≡ r
        → with_single n (journal_from v k) before r (rest_of told.draft (part_of bytes).rest) ≡ Ok entries → Later → ReadEntries v before bytes entries
    single version.Two same told is r made f ih = absurd is
    single version.One same told is (Err r) made f ih = let bad : ⊥ = cc f in absurd bad
    single version.One same told is (Ok e) made f ih =
        let behind = rest_of told.draft (part_of bytes).rest in
        let read = subst (λ (u : Version). IsEntry u before bytes behind e) same (single-is before bytes told e is.0 is.1 made) in
        one-more v before bytes behind entries e read.text read.fits (ih (n + 1) (before ++ e ∷ []) behind entries read.few f)

    batch : (u : Version) → u ≡ v → (h : Head) → IsLine u (line.Batch h) → IsHead before (part_of bytes) h → (r : Result Batched Stop)
        → batch_from h.edits (n + 1) (edits_of before) [] (part_of bytes).rest ≡ r → with_batch n (journal_from v k) before h r ≡ Ok entries → Later → ReadEntries v before bytes entries
    batch version.One same h is known r made f ih = absurd is
    batch version.Two same h is known (Err r) made f ih = let bad : ⊥ = cc f in absurd bad
    batch version.Two same h is known (Ok (edits, left)) made f ih =
        let e = entry h.actor h.count edits in
        let got = batch-is h.edits (n + 1) (edits_of before) [] (part_of bytes).rest edits left made in
        let read = subst (λ (u : Version). IsEntry u before bytes left e) same (entry-read before bytes h edits left is.0 is.1 is.2 known got) in
        one-more v before bytes left entries e read.text read.fits (ih (n + 1 + h.edits) (before ++ e ∷ []) left entries read.few f)

    headed : (head : Head) → IsLine v (line.Batch head) → (r : Result Head ScriptRefusal) → head_at before (part_of bytes) head ≡ r
        → with_head n (journal_from v k) before r (part_of bytes).rest ≡ Ok entries → Later → ReadEntries v before bytes entries
    headed head is (Err r) made f ih = let bad : ⊥ = cc f in absurd bad
    headed head is (Ok h) made f ih =
        let known = head-is before (part_of bytes) head h made in
        batch v refl h (subst (λ (x : Head). IsLine v (line.Batch x)) known.0 is) known.1 (batch_from h.edits (n + 1) (edits_of before) [] (part_of bytes).rest) refl f ih

    by : (said : Result Line ScriptRefusal) → line_in v (part_of bytes).line ≡ said → judged n (journal_from v k) before (part_of bytes) said ≡ Ok entries → Later
        → ReadEntries v before bytes entries
    by (Err r) says f ih = let bad : ⊥ = cc f in absurd bad
    by (Ok (line.Last count)) says f ih =
        let is = last-is n before entries (part_of bytes) count f in
        record {
          added = [];
          all = is.0 ∙ sym (append-nil before);
          text = part-is bytes is.1 ∙ is.2 ∙ ap tail_of (sym is.0);
          few = subst (λ (es : List JournalEntry). length (edits_of es) ≤ edit_limit) (sym is.0) few;
          fits = tt;
        }
    by (Ok (line.Single told)) says f ih = single v refl told (line-is v (part_of bytes).line (line.Single told) says) (single_at before (part_of bytes) told) refl f ih
    by (Ok (line.Batch head)) says f ih = headed head (line-is v (part_of bytes).line (line.Batch head) says) (head_at before (part_of bytes) head) refl f ih

-- the version that a first line tells is that of the line
version-is : (first : List ℕ) (v : Version) → version_of first ≡ Some v → first ≡ first_line v
version-is first v h = by (is_text first (first_line version.One)) refl (is_text first (first_line version.Two)) refl h
  where
    by : (a : Bool) → is_text first (first_line version.One) ≡ a → (b : Bool) → is_text first (first_line version.Two) ≡ b
        → cond a (Some version.One) (cond b (Some version.Two) None) ≡ Some v → first ≡ first_line v
    by true p b q f = let same : version.One ≡ v = cc f in same-text first (first_line version.One) p ∙ ap first_line same
    by false p true q f = let same : version.Two ≡ v = cc f in same-text first (first_line version.Two) q ∙ ap first_line same
    by false p false q f = let bad : ⊥ = cc f in absurd bad

pub only : (bytes : List ℕ) (entries : List JournalEntry) → journal_read bytes ≡ Ok entries → IsJournalOf bytes entries
only bytes entries h = by (version_of (take 17 bytes)) refl h
  where
    by : (o : Option Version) → version_of (take 17 bytes) ≡ o → read_behind o (drop 17 bytes) ≡ Ok entries → IsJournalOf bytes entries
    by None p f = let bad : ⊥ = cc f in absurd bad
    by (Some v) p f =
        let rest = drop 17 bytes in
        let is = only-from v (length rest) 2 [] rest entries (omega arith) f in
        let all : is.added ≡ entries = sym is.all in
        let text : bytes ≡ journal_in v entries =
        sym (take-append-drop 17 bytes) ∙ ap (λ l. l ++ rest) (version-is (take 17 bytes) v p)
        ∙ ap (λ l. first_line v ++ l) (is.text ∙ ap (λ (es : List JournalEntry). flat_map (entry_text v) es ++ tail_of entries) all)
        ∙ sym (append_assoc (first_line v) (flat_map (entry_text v) entries) (tail_of entries)) in
        (v, text, record { few = is.few; each = subst (AreEntries v []) all is.fits })
