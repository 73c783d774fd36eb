use Rattle.std.proofs.Common.{arith}
use Rattle.viz_source.specs.Streams.{untaken}
use Rattle.viz_source.proofs.StreamLemmas.{lines_left-all, lines_left-some}
use Rattle.viz_source.proofs.laws.has_the_lines_of_its_bytes.Goals as goal

pub returns-clause-all : goal.returns-clause-all
returns-clause-all c bytes h = lines_left-all (untaken bytes) (omega (arith, h))

pub returns-clause-too_long : goal.returns-clause-too_long
returns-clause-too_long c bytes h = lines_left-some (untaken bytes) (omega (arith, h))
