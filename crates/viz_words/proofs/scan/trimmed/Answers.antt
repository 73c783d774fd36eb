use Rattle.std.proofs.Common.{arith}
use Rattle.viz_words.proofs.ScanLemmas.{trimmed-last, trimmed-kept, trimmed-empty}
use Rattle.viz_words.proofs.scan.trimmed.Goals as goal
use Rattle.viz_words.proofs.scan.trimmed.Goals.{else-len-gt0-via-then-len-gt0+else-line-len-eq13, else-len-gt0-via-else-len-gt0}

pub returns-then-line-len-eq13 : goal.returns-then-line-len-eq13
returns-then-line-len-eq13 c = trimmed-last c.args.line.now _ (omega arith) c.if-line-len-eq13.true

pub returns-else-len-gt0 : goal.returns-else-len-gt0
returns-else-len-gt0 c = elim c.else-len-gt0.branch [
  | else-len-gt0-via-then-len-gt0+else-line-len-eq13 w ↦ trimmed-kept c.args.line.now _ (omega arith) w.if-line-len-eq13.false
  | else-len-gt0-via-else-len-gt0 w ↦ trimmed-empty c.args.line.now (omega arith)
]
