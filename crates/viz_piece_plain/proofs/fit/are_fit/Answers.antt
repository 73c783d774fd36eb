use Rattle.std.proofs.Common.{rules, subst}
use Rattle.std.specs.List.{All}
use Rattle.std.proofs.lemmas.List.{take_all}
use Rattle.viz_parts.specs.Parts.{PartSheetData}
use Rattle.viz_sheet.specs.Sheet.{IsFit}
use Rattle.viz_cells.proofs.NumberLemmas.{all-more}
use Rattle.viz_piece_plain.proofs.fit.are_fit.Goals as goal

-- the sheet of a part fits
abbrev Fits : PartSheetData → Type 0
Fits p = IsFit p.sheet

pub loop-part-preserved : goal.loop-part-preserved
loop-part-preserved c =
    all-more Fits c.args.parts.now c.loop-part.part-index c.part-item.result c.loop-part-test.true c.part-item.is c.loop-part.invariant (search rules)

pub returns : goal.returns
returns c _ = subst (All Fits) (take_all c.loop-part.part-index c.args.parts.now c.loop-part-test.false) c.loop-part.invariant
