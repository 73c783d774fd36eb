use Rattle.viz_attr.specs.Picks.{Given}
use Rattle.viz_attr.proofs.AttributeLaws.{meets-attributes}
use Rattle.viz_attr.proofs.FirstLaws.{picked_of_call}
use Rattle.viz_attr.proofs.all_parts.attributes.Goals as goal

pub returns-clause-rules : goal.returns-clause-rules
returns-clause-rules c = meets-attributes (record { binary = c.args.binary; points = c.args.points; cells = c.args.cells; pick = c.args.pick.now }) c.all.result c.args.lexer.now c.all.new.lexer c.all.ensures

pub returns-clause-picked : goal.returns-clause-picked
returns-clause-picked c =
    let g : Given = record { binary = c.args.binary; points = c.args.points; cells = c.args.cells; pick = c.args.pick.now } in
    picked_of_call g c.all.result c.args.lexer.now c.all.new.lexer (meets-attributes g c.all.result c.args.lexer.now c.all.new.lexer c.all.ensures)
