use Rattle.std.proofs.Common.{length}
use Rattle.viz_script.specs.Steps.Parser.{IsSoFar}
use Rattle.viz_script.proofs.parsing.steps_of.Given as goal

-- some lines were read, and those that are left are read behind them
abbrev pub invariant-loop-front : goal.invariant-loop-front
invariant-loop-front l = IsSoFar l.actors l.text l.rest l.line l.lines l.parser

abbrev pub decreases-loop-front : goal.decreases-loop-front
decreases-loop-front l = length l.rest
