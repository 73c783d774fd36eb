use Rattle.std.proofs.Common.{rules, subst}
use Rattle.std.specs.List.{All}
use Rattle.std.proofs.lemmas.List.{take_all}
use Rattle.viz_sheet.specs.Sheet.{IsFit}
use Rattle.viz_cells.proofs.NumberLemmas.{all-more}
use Rattle.viz_filter_tests.proofs.cells.fit.are_fit.Goals as goal

pub loop-sheet-preserved : goal.loop-sheet-preserved
loop-sheet-preserved c =
    all-more IsFit c.args.sheets.now c.loop-sheet.sheet-index c.sheet-item.result c.loop-sheet-test.true c.sheet-item.is c.loop-sheet.invariant (search rules)

pub returns : goal.returns
returns c _ = subst (All IsFit) (take_all c.loop-sheet.sheet-index c.args.sheets.now c.loop-sheet-test.false) c.loop-sheet.invariant
