use Rattle.std.proofs.Common.{◌+◌}
use Rattle.std.specs.Prelude.{drop}
use Rattle.std.specs.List.{flat_map}
use Rattle.std.proofs.lemmas.Result.{err_from_is_err_and}
use Rattle.viz_counted_cells.specs.Numbered.{cell_numbers}
use Rattle.viz_counted_cells.proofs.BlockLoops.{cells-behind}
use Rattle.viz_mesh_read.proofs.GridLoops.{types-on, types-fault, types-done}
use Rattle.viz_mesh_read.proofs.types.types_of_size.Goals as goal

pub loop-i-preserved : goal.loop-i-preserved
loop-i-preserved g c =
    let list = g.C.FixedCell.list in
    let numbers = λ (i : _). flat_map (λ (c' : _). cell_numbers (list c')) (drop i c.args.cells.now) in
    types-on c.args.binary c.size_at.result c.args.count c.loop-i.i (numbers c.loop-i.i) (numbers (c.loop-i.i + 1)) c.loop-i.lexer c.cell_type.new.lexer _ c.loop-i-test.true c.size_at.ensures (cells-behind list c.loop-i.i c.args.cells.now) c.in_ok-cell_type.ensures c.loop-i.invariant

pub returns-in_err-cell_type : goal.returns-in_err-cell_type
returns-in_err-cell_type g c =
    let list = g.C.FixedCell.list in
    let numbers = flat_map (λ (c' : _). cell_numbers (list c')) (drop c.loop-i.i c.args.cells.now) in
    let p = err_from_is_err_and c.from_residual.result c.from_residual.ensures.1 in
    rw (p.1, p.2) (types-fault c.args.binary c.size_at.result c.args.count c.loop-i.i numbers c.loop-i.lexer c.in_err-cell_type.field-0.0 _ c.loop-i-test.true c.size_at.ensures c.in_err-cell_type.ensures c.loop-i.invariant)

pub returns : goal.returns
returns g c = types-done c.args.binary c.args.count c.loop-i.i (flat_map (λ (c' : _). cell_numbers (g.C.FixedCell.list c')) (drop c.loop-i.i c.args.cells.now)) c.loop-i.lexer _ c.loop-i-test.false c.loop-i.invariant
