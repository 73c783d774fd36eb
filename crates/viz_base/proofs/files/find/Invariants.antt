use Rattle.std.proofs.Common.{◌≡◌, drop}
use Rattle.viz_base.specs.Entries.{file_at}
use Rattle.viz_base.proofs.files.find.Given as goal

-- what is left gives the file
abbrev pub invariant-loop-file : goal.invariant-loop-file
invariant-loop-file l = file_at (drop l.file-index l.files) l.name ≡ file_at l.files l.name
