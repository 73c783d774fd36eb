use Rattle.std.proofs.Common.{◌-◌, ◌∙◌, sym}
use Rattle.std.proofs.lemmas.Result.{err_from_is_err_and}
use Rattle.viz_legacy_read.proofs.FieldLoops.{fields-on, fields-fault, fields-end, fields-done}
use Rattle.viz_legacy_read.proofs.front.fields.Goals as goal

pub returns-then-not-is_next : goal.returns-then-not-is_next
returns-then-not-is_next c =
    fields-end c.args.binary (c.args.most - c.loop.counter) c.loop.lexer _ (sym c.is_next.ensures.value ∙ c.if-not-is_next.true) c.loop.invariant

pub loop-preserved : goal.loop-preserved
loop-preserved c =
    fields-on c.args.binary c.args.most c.loop.counter c.loop.lexer c.one_field.new.lexer _ c.loop-test.true (sym c.is_next.ensures.value ∙ c.if-not-is_next.false) c.in_ok-one_field.ensures c.loop.invariant

pub returns-in_err-one_field : goal.returns-in_err-one_field
returns-in_err-one_field c =
    let p = err_from_is_err_and c.from_residual.result c.from_residual.ensures.1 in
    rw (p.1, p.2) (fields-fault c.args.binary c.args.most c.loop.counter c.loop.lexer c.in_err-one_field.field-0.0 _ c.loop-test.true (sym c.is_next.ensures.value ∙ c.if-not-is_next.false) c.in_err-one_field.ensures c.loop.invariant)

pub returns : goal.returns
returns c = fields-done c.args.binary c.args.most c.loop.counter c.loop.lexer _ c.loop-test.false c.loop.invariant
