-- What is kept while a journal is read: words of private contracts alone.
use Rattle.std.specs.Prelude.{◌≡◌, ℕ, suc, ◌+◌, ◌*◌, ◌<◌, ◌≤◌, true, false, unwrap_or, List, []}
use Rattle.std.specs.Prelude.{◌∷◌, ◌++◌, length, Option, None, Some, Result, Ok, Err}
use Rattle.std.specs.Ordering.{nat_cmp}
use Rattle.std.specs.BTreeMap as tree
use Rattle.viz_network.specs.declared.edit.Edit.{Edit}
use Rattle.viz_network.specs.declared.refusal.ApplyStop.{ApplyStop}
use Rattle.viz_network.specs.declared.refusal.ApplyStop.TheVariants as apply
use Rattle.viz_network.specs.History.{net_of}
use Rattle.viz_words.specs.declared.refusal.ScriptRefusal.{ScriptRefusal}
use Rattle.viz_words.specs.declared.refusal.ScriptStop.{ScriptStop}
use Rattle.viz_words.specs.declared.refusal.ScriptStop.TheVariants.{Refused, Memory}
use Rattle.viz_journal.specs.declared.draft.Draft.{Draft}
use Rattle.viz_journal.specs.declared.line.Told.{Told}
use Rattle.viz_journal.specs.declared.line.Head.{Head}
use Rattle.viz_journal.specs.declared.entry.JournalEntry.{JournalEntry}
use Rattle.viz_journal.specs.declared.ledger.Ledger.{Ledger}
use Rattle.viz_journal.specs.declared.version.Version.{Version}
use Rattle.viz_journal.specs.Parts.{Part}
use Rattle.viz_journal.specs.Entries.{edit_limit, edits_of, entries_by, is_accepted}
use Rattle.viz_journal.specs.Edits.{edit_at, batch_from}
use Rattle.viz_journal.specs.Reading.{single_at, head_at, with_head, Next, journal_from}

-- the edits so far: those of the entries and those of the batch behind them
abbrev pub edits_in : Ledger → List Edit
edits_in ledger = edits_of ledger.entries.items ++ ledger.batch.items

-- the network is that of the edits, they are counted and not too many, each actor has as many
-- entries as are counted, and the next line's number is small
pub record IsKept (ledger : Ledger) : Type 0 where
  pub net : ledger.net ≡ net_of (edits_in ledger)
  pub edits : ledger.edits ≡ length (edits_in ledger)
  pub few : length (edits_in ledger) ≤ edit_limit
  pub counts : (q : ℕ) → unwrap_or (tree.get nat_cmp ledger.counts q) 0
      ≡ entries_by q ledger.entries.items
  pub lines : ledger.line ≤ 2 * length (edits_of ledger.entries.items) + 2

-- the same, and no batch is begun
pub record IsClosed (ledger : Ledger) : Type 0 where
  pub kept : IsKept ledger
  pub none : ledger.batch.items ≡ []

-- the edit is accepted behind these, or refused, unless memory ran out
abbrev pub Took : Result (Unit {0}) ApplyStop → List Edit → Edit → Type 0
Took (Ok done) before e = is_accepted before e ≡ true
Took (Err (apply.Refused cause)) before e = is_accepted before e ≡ false
Took (Err apply.Memory) before e = Unit {0}

-- ---- edits

-- only the batch has more edits
pub record IsGrown (old new : Ledger) : Type 0 where
  pub kept : IsKept new
  pub entries : new.entries.items ≡ old.entries.items
  pub line : new.line ≡ old.line

-- only the batch has more edits, and it has this one more
pub record IsAdded (old : Ledger) (e : Edit) (new : Ledger) : Type 0 where
  pub grown : IsGrown old new
  pub batch : new.batch.items ≡ old.batch.items ++ e ∷ []

-- the edit of the line was added, or the line is refused so
abbrev pub Adds : Result (Unit {0}) ScriptRefusal → Ledger → List ℕ → Part → Draft → Ledger → Type 0
Adds (Ok done) old front part draft new = (e : Edit)
    × (edit_at (edits_in old) front part draft ≡ Ok e) × IsAdded old e new
Adds (Err r) old front part draft new = edit_at (edits_in old) front part draft ≡ Err r

-- the edits of a batch and so many more are those of the lines
abbrev pub batch_in : Ledger → ℕ → ℕ → List ℕ → Result (List Edit × List ℕ) (ℕ × ScriptRefusal)
batch_in ledger k n bytes =
    batch_from k n (edits_of ledger.entries.items) ledger.batch.items bytes

-- a line of a batch was read, whatever stands behind it: its edit was added, or it is refused
abbrev pub GoesOn : {S : Type 0} → (S → List ℕ) → Result S ScriptStop → ℕ → Ledger → List ℕ
    → Ledger → Type 0
GoesOn view (Ok rest) n old bytes new = (e : Edit) × IsAdded old e new
    × (length (view rest) ≤ length bytes)
    × ((k : ℕ) → batch_in old (suc k) n bytes ≡ batch_in new k (n + 1) (view rest))
GoesOn view (Err (Refused m r)) n old bytes new = (k : ℕ)
    → batch_in old (suc k) n bytes ≡ Err (m, r)
GoesOn view (Err Memory) n old bytes new = Unit {0}

-- so many lines of a batch were read: their edits were added, or one is refused
abbrev pub GoesThrough : {S : Type 0} → (S → List ℕ) → Result S ScriptStop → ℕ → ℕ → Ledger
    → List ℕ → Ledger → Type 0
GoesThrough view (Ok rest) k n old bytes new = IsGrown old new
    × (length new.batch.items ≡ length old.batch.items + k)
    × (length (view rest) ≤ length bytes)
    × (batch_in old k n bytes ≡ Ok (new.batch.items, view rest))
GoesThrough view (Err (Refused m r)) k n old bytes new = batch_in old k n bytes ≡ Err (m, r)
GoesThrough view (Err Memory) k n old bytes new = Unit {0}

-- ---- entries

-- the entry was added, behind whose line or lines the next one has this number
pub record IsEntered (old : Ledger) (e : JournalEntry) (number : ℕ) (new : Ledger) : Type 0 where
  pub closed : IsClosed new
  pub entries : new.entries.items ≡ old.entries.items ++ e ∷ []
  pub line : new.line ≡ number

-- the entry of version 1 was added, or its line is refused so
abbrev pub Enters : Result (Unit {0}) ScriptRefusal → Ledger → Part → Told → Ledger → Type 0
Enters (Ok done) old part told new = (e : JournalEntry)
    × (single_at old.entries.items part told ≡ Ok e) × IsEntered old e (old.line + 1) new
Enters (Err r) old part told new = single_at old.entries.items part told ≡ Err r

-- the batch that a line tells was added, whatever is read behind it, or it is refused
abbrev pub EntersBatch : {S : Type 0} → (S → List ℕ) → Result S ScriptStop → Ledger → Part → Head
    → Ledger → Type 0
EntersBatch view (Ok rest) old part head new = IsClosed new
    × (length (view rest) ≤ length part.rest)
    × ((next : Next) → with_head old.line next old.entries.items
    (head_at old.entries.items part head) part.rest
    ≡ next new.line new.entries.items (view rest))
EntersBatch view (Err (Refused m r)) old part head new = (next : Next)
    → with_head old.line next old.entries.items (head_at old.entries.items part head) part.rest
    ≡ Err (m, r)
EntersBatch view (Err Memory) old part head new = Unit {0}

-- a line was read, whatever stands behind it: it is the last one, or an entry was added, or it is
-- refused
abbrev pub Goes : {S : Type 0} → (S → List ℕ) → Result (Option S) ScriptStop → Version → Ledger
    → List ℕ → Ledger → Type 0
Goes view (Ok None) v old bytes new = ((k : ℕ)
    → journal_from v (suc k) old.line old.entries.items bytes ≡ Ok old.entries.items)
    × (new.entries.items ≡ old.entries.items)
Goes view (Ok (Some rest)) v old bytes new = IsClosed new × (length (view rest) < length bytes)
    × ((k : ℕ) → journal_from v (suc k) old.line old.entries.items bytes
    ≡ journal_from v k new.line new.entries.items (view rest))
Goes view (Err (Refused n r)) v old bytes new = (k : ℕ)
    → journal_from v (suc k) old.line old.entries.items bytes ≡ Err (n, r)
Goes view (Err Memory) v old bytes new = Unit {0}
