use Rattle.std.proofs.Common.{◌≤◌, vec_len}
use Rattle.std.specs.Io.KnownBytes.{Consumes}
use Rattle.viz_base.proofs.dir_port.read_rest.Given as goal

-- the bytes are those that the file gave so far, and not past the limit
abbrev pub invariant-loop : goal.invariant-loop
invariant-loop g l = (vec_len l.bytes ≤ l.limit) × Consumes (g.F.Read.remaining l.initial.file) (g.F.Read.remaining l.file) l.bytes.items
