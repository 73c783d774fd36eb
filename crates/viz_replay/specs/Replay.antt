-- What a run of a journal's prefix did: at the desk and at the first port (docs/DEFINITIONS.md,
-- "The account of a run").
use Rattle.std.specs.Prelude.{◌≡◌, ℕ, min, List, [], ◌∷◌, length, take, Option, None, Some, Ok, Err}
use Rattle.viz_base.specs.declared.port.Port as port
use Rattle.viz_base.specs.declared.call.Call.{Call}
use Rattle.viz_base.specs.declared.call.Call.TheVariants.{Read}
use Rattle.viz_base.specs.declared.call.ReadAnswer.{ReadAnswer}
use Rattle.viz_base.specs.declared.call.ReadAnswer.TheVariants as read
use Rattle.viz_journal.specs.declared.entry.JournalEntry.{JournalEntry}
use Rattle.viz_journal.specs.Entries.{edits_of}
use Rattle.viz_journal.specs.Reading.{journal_read}
use Rattle.viz_network.specs.Network.{Network}
use Rattle.viz_network.specs.History.{net_of}
use Rattle.viz_report.specs.declared.line.Line.{Line}
use Rattle.viz_account.specs.Served.{Writes}
use Rattle.viz_account.specs.Written.{HasNoPlan}
use Rattle.viz_told.specs.Calls.{IsCalled}
use Rattle.viz_told.specs.Ports.{FirstOnly}
use Rattle.viz_words.specs.declared.refusal.ScriptRefusal.{ScriptRefusal}
use Rattle.viz_words.specs.declared.refusal.ScriptRefusal.TheVariants as refusal
use Rattle.viz_replay.specs.declared.came.Came.{Came}
use Rattle.viz_replay.specs.declared.came.Came.TheVariants as came

-- the network of so many first entries, or of all where there are fewer
abbrev pub network_at : ℕ → List JournalEntry → Network
network_at n entries = net_of (edits_of (take n entries))

-- how many entries that are
abbrev pub entries_at : ℕ → List JournalEntry → ℕ
entries_at n entries = min n (length entries)

-- the words of the command: the journal's name, how many entries, the name of the sink, and that
-- of the file
pub record Replay : Type 0 where
  pub journal : List ℕ
  pub count : ℕ
  pub sink : List ℕ
  pub output : List ℕ

-- ---- the desk

-- the calls of a read that was answered so, or of none
abbrev pub asked : List ℕ → Option ReadAnswer → List Call
asked journal None = []
asked journal (Some answer) = Read journal answer ∷ []

-- ---- how it ended

-- why a journal is refused, by what its read answered
abbrev pub IsRefusal : ReadAnswer → ℕ → ScriptRefusal → Type 0
IsRefusal (read.TooLong taken) line r = (line ≡ 0) × (r ≡ refusal.TooLong)
IsRefusal (read.Given bytes) line r = journal_read bytes ≡ Err (line, r)
IsRefusal read.Failed line r = ⊥

-- the first port was used for an update of the sink, without a plan, on the network of the
-- journal's first entries, and no other was
abbrev pub IsUpdated : {P : Type 0} → port.Ghosts P → Replay → List JournalEntry → Line → List P
    → List P → Type 0
IsUpdated m c entries line old new =
    FirstOnly
    (Writes m HasNoPlan (network_at c.count entries)
    (entries_at c.count entries) c.sink c.output line)
    old new

-- how a run ended whose read was answered so, and what was done at the ports: they are called only
-- for a journal
abbrev pub IsEndOfReplay : {P : Type 0} → port.Ghosts P → Replay → Option ReadAnswer → Came
    → List P → List P → Type 0
IsEndOfReplay m c None came.NoPort old new = (old ≡ []) × (new ≡ [])
IsEndOfReplay m c None came.Memory old new = new ≡ old
IsEndOfReplay m c (Some read.Failed) came.Unread old new = new ≡ old
IsEndOfReplay m c (Some answer) (came.Refused line r) old new = IsRefusal answer line r
    × (new ≡ old)
IsEndOfReplay m c (Some (read.Given bytes)) came.Memory old new = new ≡ old
IsEndOfReplay m c (Some (read.Given bytes)) (came.Updated line) old new =
    (entries : List JournalEntry) × (journal_read bytes ≡ Ok entries)
    × IsUpdated m c entries line old new
IsEndOfReplay m c answer ended old new = ⊥

-- a run over a desk and ports; where there is no port the desk isn't used
abbrev pub IsReplayRun : {P : Type 0} → port.Ghosts P → Replay → Came → P → P → List P → List P
    → Type 0
IsReplayRun m c ended desk new_desk old new =
    (answer : Option ReadAnswer) × IsEndOfReplay m c answer ended old new
    × IsCalled m (asked c.journal answer) desk new_desk
