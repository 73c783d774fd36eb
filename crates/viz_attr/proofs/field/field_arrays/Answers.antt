use Rattle.std.proofs.lemmas.Result.{err_from_is_err_and}
use Rattle.viz_attr.specs.Reads.{known_of, given_of}
use Rattle.viz_attr.proofs.PartLoops.{field-on, field-fault, field-done}
use Rattle.viz_attr.proofs.field.field_arrays.Goals as goal

pub loop-preserved : goal.loop-preserved
loop-preserved c =
    field-on (given_of c.args.files.now) (known_of c.loop.progress) (known_of c.field_array.new.progress) c.args.association c.loop.first c.args.count c.loop.counter c.loop.lexer c.field_array.new.lexer _ c.loop-test.true c.in_ok-field_array.ensures c.loop.invariant

pub returns-in_err-field_array : goal.returns-in_err-field_array
returns-in_err-field_array c =
    let p = err_from_is_err_and c.from_residual.result c.from_residual.ensures.1 in
    rw (p.1, p.2) (field-fault (given_of c.args.files.now) (known_of c.loop.progress) c.args.association c.loop.first c.args.count c.loop.counter c.loop.lexer c.in_err-field_array.field-0.0 _ c.loop-test.true c.in_err-field_array.ensures c.loop.invariant)

pub returns : goal.returns
returns c = field-done (given_of c.args.files.now) (known_of c.loop.progress) c.args.association c.loop.first c.args.count c.loop.counter c.loop.lexer _ c.loop-test.false c.loop.invariant
