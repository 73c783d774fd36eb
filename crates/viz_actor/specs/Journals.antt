-- The journal of a history whose passes belong to actors (docs/FORMATS-OF-SCRIPTS.md, "Journals").
use Rattle.std.specs.Prelude.{ℕ, ◌+◌, List, [], ◌∷◌, ◌++◌, length, if◌then◌else◌}
use Rattle.viz_turn.specs.Tales.{has, entries_of}
use Rattle.viz_entries.specs.declared.entry.Entry.{Entry}
use Rattle.viz_entries.specs.History.{by_of}
use Rattle.viz_journal.specs.declared.entry.JournalEntry.{JournalEntry}
use Rattle.viz_journal.specs.Journal.{journal}

-- the number of the actor whose passes have this one among them; the first of these actors has
-- this number
abbrev pub actor_with : ℕ → List (List ℕ) → ℕ → ℕ
actor_with n [] pass = n
actor_with n (passes ∷ others) pass = if has pass passes then n else actor_with (n + 1) others pass

-- the passes of that actor
abbrev pub passes_with : List (List ℕ) → ℕ → List ℕ
passes_with [] pass = []
passes_with (passes ∷ others) pass = if has pass passes then passes else passes_with others pass

-- the entries of a history behind these, each with its actor and its number among the entries of
-- that actor, from 1
abbrev pub numbered : List (List ℕ) → List Entry → List Entry → List JournalEntry
numbered passes before [] = []
numbered passes before (e ∷ es) = record {
  actor = actor_with 1 passes e.pass;
  count = length (entries_of by_of (passes_with passes e.pass) before) + 1;
  batch = e.batch;
} ∷ numbered passes (before ++ e ∷ []) es

-- the text of the journal of a history, by the passes of each actor
abbrev pub journal_of : List (List ℕ) → List Entry → List ℕ
journal_of passes h = journal (numbered passes [] h)
