use Rattle.std.proofs.Common.{◌∙◌, sym}
use Rattle.std.proofs.lemmas.Result.{err_from_is_err_and}
use Rattle.viz_counted_cells.specs.Sections.{section_of}
use Rattle.viz_mesh_read.specs.Poly.{sections_of}
use Rattle.viz_mesh_read.proofs.PolyLoops.{sections-on, sections-end, sections-fault, sections-stop, sections-done}
use Rattle.viz_mesh_read.proofs.poly.poly_cells.Goals as goal

pub loop-preserved : goal.loop-preserved
loop-preserved c =
    sections-on c.args.binary c.args.later c.args.points c.args.most c.loop.counter c.loop.seen c.seen_with-seen.result (sections_of c.loop.all) (sections_of c.put.new.all) c.in_ok-section.section.kind (section_of c.in_ok-section.section.cells) c.loop.lexer c.fields.new.lexer c.kind_section.new.lexer _ c.loop-test.true
    c.in_ok-fields.ensures (sym c.is_due.ensures ∙ c.if-not-is_due.false) c.in_ok-section.ensures c.seen_with-seen.ensures c.put.ensures c.loop.invariant

pub returns-then-not-is_due : goal.returns-then-not-is_due
returns-then-not-is_due c =
    sections-end c.args.binary c.args.later c.args.points c.args.most c.loop.counter c.loop.seen (sections_of c.loop.all) c.loop.lexer c.fields.new.lexer _ c.loop-test.true c.in_ok-fields.ensures (sym c.is_due.ensures ∙ c.if-not-is_due.true) c.loop.invariant

pub returns-in_err-fields : goal.returns-in_err-fields
returns-in_err-fields c =
    let p = err_from_is_err_and c.from_residual.result c.from_residual.ensures.1 in
    rw p.1 (sections-fault c.args.binary c.args.later c.args.points p.0 c.in_err-fields.field-0.0 c.args.most c.loop.counter c.loop.seen (sections_of c.loop.all) c.loop.lexer _ c.loop-test.true p.2 c.in_err-fields.ensures c.loop.invariant)

pub returns-in_err-section : goal.returns-in_err-section
returns-in_err-section c =
    let p = err_from_is_err_and c.from_residual-in_err-section.result c.from_residual-in_err-section.ensures.1 in
    rw (p.1, p.2) (sections-stop c.args.binary c.args.later c.args.points c.in_err-section.field-0.0 c.args.most c.loop.counter c.loop.seen (sections_of c.loop.all) c.loop.lexer c.fields.new.lexer _ c.loop-test.true c.in_ok-fields.ensures (sym c.is_due.ensures ∙ c.if-not-is_due.false) c.in_err-section.ensures c.loop.invariant)

pub returns : goal.returns
returns c = sections-done c.args.binary c.args.later c.args.points c.args.most c.loop.counter c.loop.seen (sections_of c.loop.all) c.loop.lexer _ c.loop-test.false c.loop.invariant
