-- A journal that was read, and what came then.
use Rattle.std.proofs.Common.{◌≡◌, ℕ, ◌≤◌, List, [], ◌∷◌, ◌++◌, Some, Ok}
use Rattle.std.specs.Prelude.{IsTrue}
use Rattle.viz_base.specs.Files.{SameFiles}
use Rattle.viz_base.specs.declared.port.Port as port
use Rattle.viz_base.specs.declared.call.Call.TheVariants.{Read}
use Rattle.viz_base.specs.declared.call.ReadAnswer.TheVariants as read
use Rattle.viz_journal.specs.declared.entry.JournalEntry.{JournalEntry}
use Rattle.viz_journal.specs.Reading.{journal_read}
use Rattle.viz_replay.specs.declared.came.Came.{Came}
use Rattle.viz_replay.specs.declared.came.Came.TheVariants as came
use Rattle.viz_replay.specs.Replay.{Replay, asked, IsEndOfReplay}
use Rattle.viz_replay.specs.Served.{IsServed}
use Rattle.viz_told.specs.Calls.{IsCalled}

pub asked_after : {P : Type 0} (m : port.Ghosts P) (journal : List ℕ) (p r : P) (bytes : List ℕ)
    → (IsTrue m.tells_calls → m.calls r ≡ m.calls p ++ Read journal (read.Given bytes) ∷ []) → (IsTrue m.tells_files → m.files p journal ≡ Some bytes)
    → (IsTrue m.tells_files → SameFiles (m.files p) (m.files r)) → m.faults p ≤ m.faults r → m.limit r ≡ m.limit p
    → IsCalled m (asked journal (Some (read.Given bytes))) p r
asked_after m journal p r bytes told given kept later same = record {
  calls = told;
  files = λ t. (given t, kept t);
  cause = λ f. absurd f;
  later = later;
  limit = same;
}

pub ends_after : {P : Type 0} (m : port.Ghosts P) (c : Replay) (bytes : List ℕ) (entries : List JournalEntry) (ended : Came) (old new : List P) → journal_read bytes ≡ Ok entries
    → IsServed m c entries ended old new → IsEndOfReplay m c (Some (read.Given bytes)) ended old new
ends_after m c bytes entries (came.Updated l) old new reads s = (entries, reads, s)
ends_after m c bytes entries came.Memory old new reads s = s
ends_after m c bytes entries came.NoPort old new reads s = absurd s
ends_after m c bytes entries came.Unread old new reads s = absurd s
ends_after m c bytes entries (came.Refused n r) old new reads s = absurd s
