-- Words of private contracts alone.
use Rattle.std.specs.Prelude.{◌≡◌, List}
use Rattle.viz_base.specs.declared.port.Port as port
use Rattle.viz_journal.specs.declared.entry.JournalEntry.{JournalEntry}
use Rattle.viz_replay.specs.declared.came.Came.{Came}
use Rattle.viz_replay.specs.declared.came.Came.TheVariants as came
use Rattle.viz_replay.specs.declared.serving.Replay.{Replay as Words}
use Rattle.viz_replay.specs.Replay.{Replay, IsUpdated}

-- the words as contracts see them
abbrev pub replay_of : Words → Replay
replay_of c = record { journal = c.journal.now; count = c.count; sink = c.sink; output = c.output }

-- the sink was updated, or memory ran out before anything was called
abbrev pub IsServed : {P : Type 0} → port.Ghosts P → Replay → List JournalEntry → Came → List P
    → List P → Type 0
IsServed m c entries (came.Updated line) old new = IsUpdated m c entries line old new
IsServed m c entries came.Memory old new = new ≡ old
IsServed m c entries ended old new = ⊥
