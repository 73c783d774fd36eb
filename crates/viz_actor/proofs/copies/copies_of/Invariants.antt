use Rattle.std.proofs.Common.{◌≡◌, take}
use Rattle.viz_actor.proofs.copies.copies_of.Given as goal

-- the copies of the edits so far
abbrev pub invariant-loop-edit : goal.invariant-loop-edit
invariant-loop-edit l = l.copies.items ≡ take l.edit-index l.edits
