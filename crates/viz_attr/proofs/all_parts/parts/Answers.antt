use Rattle.std.proofs.Common.{◌≡◌, ◌-◌, true, false, arith}
use Rattle.std.proofs.lemmas.Grind.{common_steps}
use Rattle.std.proofs.lemmas.Result.{err_from_is_err_and}
use Rattle.viz_lex.specs.Words.{word_at}
use Rattle.viz_lex.specs.Steps.{has}
use Rattle.viz_attr.specs.Reads.{known_of, given_of}
use Rattle.viz_attr.proofs.PartLoops.{parts-on, parts-fault, parts-end, parts-done}
use Rattle.viz_attr.proofs.all_parts.parts.Goals as goal

pub returns-then-is_done : goal.returns-then-is_done
returns-then-is_done c =
    let none : has (word_at c.loop.lexer) ≡ false = grind (arith, common_steps) in
    parts-end (given_of c.args.files.now) (known_of c.loop.progress) (c.args.most - c.loop.counter) c.loop.lexer _ none c.loop.invariant

pub loop-preserved : goal.loop-preserved
loop-preserved c =
    let word : has (word_at c.loop.lexer) ≡ true = grind (arith, common_steps) in
    parts-on (given_of c.args.files.now) (known_of c.loop.progress) (known_of c.part.new.progress) c.args.most c.loop.counter c.loop.lexer c.part.new.lexer _ c.loop-test.true word c.in_ok-part.ensures c.loop.invariant

pub returns-in_err-part : goal.returns-in_err-part
returns-in_err-part c =
    let word : has (word_at c.loop.lexer) ≡ true = grind (arith, common_steps) in
    let p = err_from_is_err_and c.from_residual.result c.from_residual.ensures.1 in
    rw (p.1, p.2) (parts-fault (given_of c.args.files.now) (known_of c.loop.progress) c.args.most c.loop.counter c.loop.lexer c.in_err-part.field-0.0 _ c.loop-test.true word c.in_err-part.ensures c.loop.invariant)

pub returns : goal.returns
returns c = parts-done (given_of c.args.files.now) (known_of c.loop.progress) c.args.most c.loop.counter c.loop.lexer _ c.loop-test.false c.loop.invariant
