use Rattle.std.proofs.Common.{length, ◌≡◌, ◌*◌, ◌∙◌, ap, subst, arith, rules}
use Rattle.std.specs.Prelude.{min}
use Rattle.viz_lex.specs.Reading.{Reading, Reads}
use Rattle.viz_lex.specs.Passing.{words_at}
use Rattle.viz_attr.proofs.CountLemmas.{words_at-most}
use Rattle.viz_attr.proofs.values.pass_tuples.Goals as goal

pub returns : goal.returns
returns c =
    let few = c.more_than-most.type_inv in
    let more = c.more_than-most.ensures in
    let all : length c.bytes.result.now ≡ length c.args.lexer.now.bytes = ap length c.bytes.ensures.value in
    let same = words_at-most (c.args.tuples * c.args.components) 18446744073709551615 c.args.lexer.now (omega arith) in
    rw (← same, ← c.saturating_mul.ensures) c.pass.ensures
