use Rattle.std.proofs.Common.{◌≡◌, ◌*◌, length, ap, arith}
use Rattle.std.proofs.lemmas.Grind.{common_steps}
use Rattle.viz_attr.proofs.CountLemmas.{bytes_at-most}
use Rattle.viz_attr.proofs.FirstsLemmas.{long_of}
use Rattle.viz_attr.proofs.values.tuple_block.Goals as goal

pub returns-clause-read : goal.returns-clause-read
returns-clause-read c =
    let few = c.more_than-most.type_inv in
    let more = c.more_than-most.ensures in
    let all : length c.bytes.result.now ≡ length c.args.lexer.now.bytes = ap length c.bytes.ensures.value in
    let same = bytes_at-most (c.args.tuples * c.args.width) 18446744073709551615 c.args.lexer.now (omega arith) in
    rw (← same, ← c.saturating_mul.ensures) c.block.ensures.read

pub returns-clause-long : goal.returns-clause-long
returns-clause-long c =
    let few = c.more_than-most.type_inv in
    let more = c.more_than-most.ensures in
    let all : length c.bytes.result.now ≡ length c.args.lexer.now.bytes = ap length c.bytes.ensures.value in
    long_of c.block.result c.saturating_mul.result (c.args.tuples * c.args.width) 18446744073709551615 (length c.args.lexer.now.bytes) c.block.ensures.long c.block.ensures.few c.saturating_mul.ensures (omega arith)
