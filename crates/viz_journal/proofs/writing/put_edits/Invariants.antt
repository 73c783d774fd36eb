use Rattle.std.proofs.Common.{◌≡◌, ◌++◌, take}
use Rattle.std.specs.List.{flat_map}
use Rattle.viz_journal.specs.Journal.{edit_text}
use Rattle.viz_journal.proofs.writing.put_edits.Given as goal

-- the edits so far are written
abbrev pub invariant-loop-edit : goal.invariant-loop-edit
invariant-loop-edit l = l.text.items ≡ l.fn.text.items ++ flat_map edit_text (take l.edit-index l.edits)
