use Rattle.std.proofs.Common.{sym, subst}
use Rattle.std.specs.List.{All}
use Rattle.std.proofs.lemmas.List.{take_all}
use Rattle.std.proofs.lemmas.List.Elements.{All-more}
use Rattle.viz_sheet.specs.Sheet.{IsFit}
use Rattle.viz_node_rules.specs.Steps.Made.{HasFitSections}
use Rattle.viz_node_rules.proofs.section.sections_fit.Goals as goal

pub section_fits-requires : goal.section_fits-requires
section_fits-requires c = subst IsFit (sym c.sheet-item.is) (c.requires c.loop-sheet.sheet-index c.sheet-item.result c.loop-sheet-test.true)

pub loop-sheet-preserved : goal.loop-sheet-preserved
loop-sheet-preserved c = All-more HasFitSections c.args.sheets.now c.loop-sheet.sheet-index c.sheet-item.result c.loop-sheet-test.true c.loop-sheet.invariant (subst HasFitSections c.sheet-item.is c.section_fits.ensures)

pub returns : goal.returns
returns c = subst (All HasFitSections) (take_all c.loop-sheet.sheet-index c.args.sheets.now c.loop-sheet-test.false) c.loop-sheet.invariant
