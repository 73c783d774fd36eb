-- The entries of a journal, and their edits (docs/FORMATS-OF-SCRIPTS.md, "Journals").
use Rattle.std.specs.Prelude.{ℕ, ◌+◌, Bool, ◌&&◌, ◌==◌, nat_le, List, flat_map, length, count_by}
use Rattle.std.specs.Prelude.{is_ok}
use Rattle.viz_network.specs.declared.edit.Edit.{Edit}
use Rattle.viz_network.specs.Edits.{apply}
use Rattle.viz_network.specs.History.{net_of}
use Rattle.viz_batches.specs.Batches.{apply_all}
use Rattle.viz_journal.specs.declared.entry.JournalEntry.{JournalEntry}

-- the greatest number of edits
abbrev pub edit_limit : ℕ
edit_limit = 1073741824

-- the edits of entries, in order: their positions count from 1 through all entries
abbrev pub edits_of : List JournalEntry → List Edit
edits_of entries = flat_map (λ e. e.batch) entries

-- how many of the entries are this actor's
abbrev pub entries_by : ℕ → List JournalEntry → ℕ
entries_by actor entries = count_by (λ e. e.actor == actor) entries

-- the count is the next one of this actor, and there is room for so many edits
abbrev pub is_counted : ℕ → ℕ → ℕ → List JournalEntry → Bool
is_counted actor count many entries = count == entries_by actor entries + 1
    && nat_le (length (edits_of entries) + many) edit_limit

-- the network of these edits accepts one more
abbrev pub is_accepted : List Edit → Edit → Bool
is_accepted before e = is_ok (apply (length before + 1) e (net_of before))

-- the network of these edits accepts a batch
abbrev pub accepts_all : List Edit → List Edit → Bool
accepts_all before batch = is_ok (apply_all (length before + 1) batch (net_of before))

-- the entry of an actor with this count
abbrev pub entry : ℕ → ℕ → List Edit → JournalEntry
entry actor count batch = record { actor = actor; count = count; batch = batch }
