use Rattle.std.proofs.Common.{subst}
use Rattle.std.specs.List.{All}
use Rattle.std.proofs.lemmas.List.{take_all}
use Rattle.std.proofs.lemmas.List.Elements.{All-more}
use Rattle.viz_sheet.specs.Sheet.{IsSheet}
use Rattle.viz_node_rules.proofs.section.known.Goals as goal

pub loop-sheet-preserved : goal.loop-sheet-preserved
loop-sheet-preserved c =
    All-more IsSheet c.args.sheets.now c.loop-sheet.sheet-index c.sheet-item.result c.loop-sheet-test.true c.loop-sheet.invariant (subst IsSheet c.sheet-item.is c.known.ensures.valid)

pub returns : goal.returns
returns c =
    subst (All IsSheet) (take_all c.loop-sheet.sheet-index c.args.sheets.now c.loop-sheet-test.false) c.loop-sheet.invariant
