use Rattle.std.proofs.Common.{take}
use Rattle.std.specs.Io.KnownBytes.{Appends}
use Rattle.viz_base.specs.Texts.{joined}
use Rattle.viz_base.proofs.dir_port.write_parts.Given as goal

-- the parts so far were written
abbrev pub invariant-loop-part : goal.invariant-loop-part
invariant-loop-part g l = Appends (g.F.Write.contents l.initial.file) (g.F.Write.contents l.file) (joined (take l.part-index l.part-items))
