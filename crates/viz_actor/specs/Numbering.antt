-- The actors and numbers of a journal's entries, by the rows of a report. Words of private
-- contracts alone.
use Rattle.std.specs.Prelude.{◌≡◌, ℕ, ◌+◌, ◌<◌, true, List, [], ◌∷◌, ◌++◌, length, map, flat_map}
use Rattle.std.specs.Prelude.{All, slice_get, slice_index, slice_set, Option, Some, None}
use Rattle.std.specs.List.{zip}
use Rattle.viz_turn.specs.Tales.{once, entries_of}
use Rattle.viz_entries.specs.declared.entry.Entry.{Entry}
use Rattle.viz_entries.specs.History.{by_of}
use Rattle.viz_journal.specs.declared.entry.JournalEntry.{JournalEntry}
use Rattle.viz_report.specs.declared.line.Row.{Row}
use Rattle.viz_account.specs.Account.{edited}
use Rattle.viz_account.specs.Laws.{times}
use Rattle.viz_actor.specs.Journals.{actor_with, journal_of}

-- the actor of each entry, by the passes of each
abbrev pub actors_of : List (List ℕ) → List Entry → List ℕ
actors_of passes h = map (λ e. actor_with 1 passes e.pass) h

-- the number of each actor among those before it and itself, from 1
abbrev pub running : List ℕ → List ℕ → List ℕ
running before [] = []
running before (a ∷ actors) = (times a before + 1) ∷ running (before ++ a ∷ []) actors

-- entries with their actors and numbers
abbrev pub with_numbers : List Entry → List ℕ → List ℕ → List JournalEntry
with_numbers h actors numbers =
    map (λ p. record { actor = p.0.1; count = p.1; batch = p.0.0.batch })
    (zip (zip h actors) numbers)

-- each actor that is found is that of its entry
abbrev pub Agree : List (Option ℕ) → List ℕ → Type 0
Agree [] [] = Unit {0}
Agree (None ∷ found) (a ∷ actors) = Agree found actors
Agree (Some b ∷ found) (a ∷ actors) = (b ≡ a) × Agree found actors
Agree found actors = ⊥

-- one more of an actor: its number, and the counts with it
pub record IsCounted (actor count : ℕ) (old new : List ℕ) : Type 0 where
  pub within : actor < length old
  pub more : count ≡ slice_index old actor + 1
  pub kept : new ≡ slice_set old actor count

-- where the row tells of an entry, it is of the row's actor
abbrev pub TellsActor : List ℕ → Row → Type 0
TellsActor actors r = All (λ at. (k : ℕ) → at ≡ k + 1 → k < length actors
    → slice_get actors k ≡ Some r.actor) (edited r.line)

-- each entry is by a pass of one actor, who is that of the row that tells it
pub record AreOwn (passes : List (List ℕ)) (h : List Entry) (rows : List Row) : Type 0 where
  pub apart : once (flat_map (λ ps. ps) passes) ≡ true
  pub whole : entries_of by_of (flat_map (λ ps. ps) passes) h ≡ h
  pub told : All (TellsActor (actors_of passes h)) rows

-- the journal of a history, whosever the passes are by these rows
abbrev pub IsJournalBy : List Row → List Entry → List ℕ → Type 0
IsJournalBy rows h text = (passes : List (List ℕ)) → AreOwn passes h rows
    → text ≡ journal_of passes h
