-- Entries that a journal can have (docs/FORMATS-OF-SCRIPTS.md, "Journals").
use Rattle.std.specs.Prelude.{◌≡◌, ℕ, ◌+◌, ◌^◌, ◌<◌, ◌≤◌, true, ◌&&◌, int_le, List, [], ◌∷◌}
use Rattle.std.specs.Prelude.{◌++◌, length, Some}
use Rattle.std.specs.List.{list_all, AllByRecursion}
use Rattle.viz_kinds.specs.declared.param.Param.{Param}
use Rattle.viz_kinds.specs.declared.param.Param.TheVariants as param
use Rattle.viz_kinds.specs.declared.param.Value.{Value}
use Rattle.viz_kinds.specs.declared.param.Value.TheVariants.{Numbers, Text}
use Rattle.viz_kinds.specs.Values.{first_number, last_number}
use Rattle.viz_network.specs.declared.edit.Edit.{Edit}
use Rattle.viz_network.specs.declared.edit.Edit.TheVariants as edit
use Rattle.viz_words.specs.Names.{is_node_name, is_array_name}
use Rattle.viz_words.specs.Tables.{kind_word, kind_named}
use Rattle.viz_batches.specs.Batches.{IsBatch}
use Rattle.viz_journal.specs.declared.entry.JournalEntry.{JournalEntry}
use Rattle.viz_journal.specs.declared.version.Version.{Version}
use Rattle.viz_journal.specs.declared.version.Version.TheVariants as version
use Rattle.viz_journal.specs.Journal.{journal_in}
use Rattle.viz_journal.specs.Entries.{edit_limit, edits_of, entries_by, accepts_all}

-- a value of eight numbers of 64 bits, or a text; the array's is a name
abbrev pub FitsValue : Param → Value → Type 0
FitsValue param (Numbers count items) = (length items ≡ 8)
    × (list_all (λ n. int_le first_number n && int_le n last_number) items ≡ true)
FitsValue param.Array (Text text) = is_array_name text ≡ true
FitsValue _ (Text text) = Unit {0}

-- the names of an edit are names, the kind is one that is read, and its numbers are those of their
-- types
abbrev pub FitsEdit : Edit → Type 0
FitsEdit (edit.Add kind node) = (kind_named (kind_word kind) ≡ Some kind)
    × (is_node_name node ≡ true)
FitsEdit (edit.Remove node) = is_node_name node ≡ true
FitsEdit (edit.Connect from to port) = (is_node_name from ≡ true) × (is_node_name to ≡ true)
    × (port < 256)
FitsEdit (edit.Disconnect to port) = (is_node_name to ≡ true) × (port < 256)
FitsEdit (edit.Set node param value) = (is_node_name node ≡ true) × FitsValue param value
FitsEdit (edit.Load node file) = (is_node_name node ≡ true) × (length file < 2 ^ 63)

-- an entry of version 1 has one edit, one of version 2 a batch
abbrev pub FitsVersion : Version → List Edit → Type 0
FitsVersion version.One edits = length edits ≡ 1
FitsVersion version.Two edits = IsBatch edits

-- an entry may stand behind these: its count is the next one of its actor, and the network accepts
-- its batch
pub record FitsEntry (v : Version) (before : List JournalEntry) (e : JournalEntry) : Type 0 where
  pub actor : e.actor < 2 ^ 32
  pub count : e.count ≡ entries_by e.actor before + 1
  pub version : FitsVersion v e.batch
  pub edits : AllByRecursion FitsEdit e.batch
  pub accepted : accepts_all (edits_of before) e.batch ≡ true

-- each entry may stand behind those in front of it
abbrev pub AreEntries : Version → List JournalEntry → List JournalEntry → Type 0
AreEntries v before [] = Unit {0}
AreEntries v before (e ∷ entries) = FitsEntry v before e × AreEntries v (before ++ e ∷ []) entries

-- a journal of this version can have these entries
pub record Fits (v : Version) (entries : List JournalEntry) : Type 0 where
  pub few : length (edits_of entries) ≤ edit_limit
  pub each : AreEntries v [] entries

-- the bytes are the text of the entries in a version, whose journals can have them
abbrev pub IsJournalOf : List ℕ → List JournalEntry → Type 0
IsJournalOf bytes entries = (v : Version) × (bytes ≡ journal_in v entries) × Fits v entries
