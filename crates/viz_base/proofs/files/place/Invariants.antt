use Rattle.std.proofs.Common.{◌≡◌, take, None}
use Rattle.viz_base.specs.Entries.{file_at}
use Rattle.viz_base.proofs.files.place.Given as goal

-- no file so far has the name
abbrev pub invariant-loop-i : goal.invariant-loop-i
invariant-loop-i l = file_at (take l.i l.files) l.name ≡ None
