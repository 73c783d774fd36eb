-- The entries of a journal, or the first refusal of its first line that has one
-- (docs/FORMATS-OF-SCRIPTS.md, "Journals").
use Rattle.std.specs.Prelude.{◌≡◌, ℕ, zero, suc, ◌+◌, not, ◌==◌, List, [], ◌∷◌, ◌++◌, take, drop}
use Rattle.std.specs.Prelude.{length, Option, None, Some, Result, Ok, Err, if◌then◌else◌}
use Rattle.viz_kinds.specs.Values.{is_text}
use Rattle.viz_words.specs.declared.refusal.ScriptRefusal.{ScriptRefusal}
use Rattle.viz_words.specs.declared.refusal.ScriptRefusal.TheVariants as refusal
use Rattle.viz_words.specs.declared.refusal.ScriptStop.{ScriptStop}
use Rattle.viz_words.specs.declared.refusal.ScriptStop.TheVariants.{Refused, Memory}
use Rattle.viz_words.specs.Gives.{◌>>=◌, guard}
use Rattle.viz_journal.specs.declared.line.Told.{Told}
use Rattle.viz_journal.specs.declared.line.Head.{Head}
use Rattle.viz_journal.specs.declared.line.Line.{Line}
use Rattle.viz_journal.specs.declared.line.Line.TheVariants as line
use Rattle.viz_journal.specs.declared.entry.JournalEntry.{JournalEntry}
use Rattle.viz_journal.specs.declared.version.Version.{Version}
use Rattle.viz_journal.specs.declared.version.Version.TheVariants as version
use Rattle.viz_journal.specs.Journal.{lead, batch_line, first_line, last_line}
use Rattle.viz_journal.specs.Lines.{line_in}
use Rattle.viz_journal.specs.Parts.{Part, part_of, rest_of}
use Rattle.viz_journal.specs.Entries.{edits_of, is_counted, entry}
use Rattle.viz_journal.specs.Edits.{is_spelled, edit_at, Stop, Batched, batch_from}

-- ---- an entry

-- the entry of version 1 behind these, or its first refusal
unfoldable pub single_at : List JournalEntry → Part → Told → Result JournalEntry ScriptRefusal
single_at entries part told = do
  counted ← guard (is_counted told.actor told.count 1 entries) refusal.Number
  e ← edit_at (edits_of entries) (lead told.actor told.count) part told.draft
  Ok (entry told.actor told.count (e ∷ []))

-- the line of a batch behind these, or its first refusal
unfoldable pub head_at : List JournalEntry → Part → Head → Result Head ScriptRefusal
head_at entries part head = do
  counted ← guard (is_counted head.actor head.count head.edits entries) refusal.Number
  spelled ← guard (is_spelled part (batch_line head.actor head.count head.edits)) refusal.Word
  Ok head

-- what is read behind some entries, from a line of some number on
abbrev pub Next : Type 0
Next = ℕ → List JournalEntry → List ℕ → Result (List JournalEntry) Stop

-- the entries with one of version 1 and those behind it
abbrev pub with_single : ℕ → Next → List JournalEntry → Result JournalEntry ScriptRefusal
    → List ℕ → Result (List JournalEntry) Stop
with_single n next entries (Err r) rest = Err (n, r)
with_single n next entries (Ok e) rest = next (n + 1) (entries ++ e ∷ []) rest

-- the entries with one of this batch and those behind it
abbrev pub with_batch : ℕ → Next → List JournalEntry → Head → Result Batched Stop
    → Result (List JournalEntry) Stop
with_batch n next entries head (Err stop) = Err stop
with_batch n next entries head (Ok read) =
    next (n + 1 + head.edits) (entries ++ entry head.actor head.count read.0 ∷ []) read.1

-- the same, where a line of this number says so
abbrev pub with_head : ℕ → Next → List JournalEntry → Result Head ScriptRefusal → List ℕ
    → Result (List JournalEntry) Stop
with_head n next entries (Err r) rest = Err (n, r)
with_head n next entries (Ok head) rest =
    with_batch n next entries head (batch_from head.edits (n + 1) (edits_of entries) [] rest)

-- ---- the last line

-- nothing stands behind the last line
abbrev pub ends : ℕ → List JournalEntry → List ℕ → Result (List JournalEntry) Stop
ends n entries [] = Ok entries
ends n entries (b ∷ bs) = Err (n, refusal.Word)

-- the entries, where the last line of this number tells how many they are and is spelled as it is
-- written
abbrev pub last_at : ℕ → List JournalEntry → Part → ℕ → Result (List JournalEntry) Stop
last_at n entries part count = if not (count == length entries) then Err (n, refusal.Number)
    else (if not (is_spelled part (last_line count)) then Err (n, refusal.Word)
    else ends (n + 1) entries part.rest)

-- ---- the journal

-- the entries and those of a line that says this and of what is behind it
abbrev pub judged : ℕ → Next → List JournalEntry → Part → Result Line ScriptRefusal
    → Result (List JournalEntry) Stop
judged n next entries part (Err r) = Err (n, r)
judged n next entries part (Ok (line.Last count)) = last_at n entries part count
judged n next entries part (Ok (line.Single told)) =
    with_single n next entries (single_at entries part told) (rest_of told.draft part.rest)
judged n next entries part (Ok (line.Batch head)) =
    with_head n next entries (head_at entries part head) part.rest

-- the entries and those of the bytes, whose first line has this number; at most so many
unfoldable pub journal_from : Version → ℕ → ℕ → List JournalEntry → List ℕ
    → Result (List JournalEntry) Stop
journal_from v zero n entries bytes = Err (n, refusal.Word)
journal_from v (suc k) n entries bytes =
    judged n (journal_from v k) entries (part_of bytes) (line_in v (part_of bytes).line)

-- the version that the first line tells
abbrev pub version_of : List ℕ → Option Version
version_of first = if is_text first (first_line version.One) then Some version.One
    else (if is_text first (first_line version.Two) then Some version.Two else None)

-- the entries of the bytes behind the first line
abbrev pub read_behind : Option Version → List ℕ → Result (List JournalEntry) Stop
read_behind None rest = Err (1, refusal.Word)
read_behind (Some v) rest = journal_from v (length rest) 2 [] rest

-- the entries of a journal
abbrev pub journal_read : List ℕ → Result (List JournalEntry) Stop
journal_read bytes = read_behind (version_of (take 17 bytes)) (drop 17 bytes)

-- the refusal that the definition gives, unless memory ran out
abbrev pub Stops : ScriptStop → Result (List JournalEntry) Stop → Type 0
Stops (Refused n r) read = read ≡ Err (n, r)
Stops Memory read = Unit {0}

-- the entries that the definition gives, or the refusal that it gives, unless memory ran out
abbrev pub Reads : {E : Type 0} → (E → List JournalEntry) → Result E ScriptStop
    → Result (List JournalEntry) Stop → Type 0
Reads view (Ok entries) read = read ≡ Ok (view entries)
Reads view (Err stop) read = Stops stop read
