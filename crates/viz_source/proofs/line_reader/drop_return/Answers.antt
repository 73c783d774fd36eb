use Rattle.std.proofs.Common.{◌≡◌, ◌-◌, ◌∙◌, vec_len, length, sym, arith}
use Rattle.std.proofs.lemmas.List.{get_or_read}
use Rattle.viz_words.proofs.ScanLemmas.{trimmed-last, trimmed-kept, trimmed-empty}
use Rattle.viz_source.proofs.line_reader.drop_return.Goals as goal
use Rattle.viz_source.proofs.line_reader.drop_return.Goals.{else-len-gt0-via-then-len-gt0+else-index-eq13, else-len-gt0-via-else-len-gt0}

pub returns-then-index-eq13-clause-items : goal.returns-then-index-eq13-clause-items
returns-then-index-eq13-clause-items c =
    let line = c.args.line.now.items in
    let n = c.len-len.result - 1 in
    let len : vec_len c.args.line.now ≡ length c.args.line.now.items = search arith in
    let read = get_or_read line n c.index.result.now (omega arith) c.index.ensures 0 in
    c.truncate.ensures.items ∙ trimmed-last line n (omega arith) (sym read ∙ c.if-index-eq13.true)

pub returns-else-len-gt0-clause-items : goal.returns-else-len-gt0-clause-items
returns-else-len-gt0-clause-items c =
    let line = c.args.line.now.items in
    let n = c.len-len.result - 1 in
    let len : vec_len c.args.line.now ≡ length c.args.line.now.items = search arith in
    elim c.else-len-gt0.branch [
      | else-len-gt0-via-then-len-gt0+else-index-eq13 w ↦
          let read = get_or_read line n w.index.result.now (omega arith) w.index.ensures 0 in
          trimmed-kept line n (omega arith) (λ h. w.if-index-eq13.false (read ∙ h))
      | else-len-gt0-via-else-len-gt0 w ↦ trimmed-empty line (omega arith)
    ]
