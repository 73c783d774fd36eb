use Rattle.viz_offset_cells.proofs.BlockLoops.{runs-found}
use Rattle.viz_offset_cells.proofs.wide_cells.next_tetrahedra.Goals as goal

pub returns : goal.returns
returns c =
    runs-found (λ cell. cell) c.args.kind c.args.points 4 c.args.count c.args.indices c.in-Some.cells.items c.rest.result.now c.of.result.items c.args.lexer.now
    c.requires.wide c.requires.few c.requires.all (rw c.in-Some.is at c.in_ok-found.ensures.count) c.rest.ensures (rw c.in-Some.is at c.in_ok-found.ensures.cells) c.of.ensures.value
