use Rattle.std.proofs.Common.{◌≡◌, Ok, rules}
use Rattle.std.specs.Int.{w128, cast_signed, cast_unsigned}
use Rattle.viz_lex.specs.Reading.{Reading}
use Rattle.viz_lex.specs.Words.{word_at}
use Rattle.viz_lex.specs.Decimals.{decimal_at}
use Rattle.viz_lex.proofs.DecimalLemmas.{decimal_at-Ok}
use Rattle.viz_lex.proofs.lexer.Lexer.decimal.Goals as goal

pub returns-clause-ok : goal.returns-clause-ok
unfolding decimal_at word_at
returns-clause-ok c =
    let n = cast_signed w128 (cast_unsigned w128 c.in-Some-decimal.n) in
    let next : Reading = record { bytes = c.self.inside.bytes.now; place = c.in-Some.word.«end» } in
    let read : decimal_at c.args.self.now ≡ Ok (n, next) = search rules in
    decimal_at-Ok c.args.self.now next n read
