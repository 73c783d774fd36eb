use Rattle.std.proofs.Common.{◌≡◌, ◌++◌, take}
use Rattle.std.specs.List.{flat_map}
use Rattle.viz_journal.specs.Journal.{entry_text}
use Rattle.viz_journal.specs.declared.version.Version.TheVariants.{Two}
use Rattle.viz_journal.proofs.writing.put_entries.Given as goal

-- the entries so far are written
abbrev pub invariant-loop-entry : goal.invariant-loop-entry
invariant-loop-entry l = l.text.items ≡ l.fn.text.items ++ flat_map (entry_text Two) (take l.entry-index l.entries)
