use Rattle.std.proofs.Common.{◌≡◌, ℕ, List, ◌++◌}
use Rattle.std.specs.Io.KnownBytes.{Appends}
use Rattle.viz_base.proofs.dir_port.write_all.Given as goal

-- what is gone from the rest was written
abbrev pub invariant-loop : goal.invariant-loop
invariant-loop g l = (done : List ℕ) × (l.initial.rest ≡ done ++ l.rest) × Appends (g.F.Write.contents l.initial.file) (g.F.Write.contents l.file) done
