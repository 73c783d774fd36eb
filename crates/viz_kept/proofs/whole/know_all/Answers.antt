use Rattle.std.proofs.Common.{◌<◌, length, subst, rules}
use Rattle.std.proofs.lemmas.List.Elements.{All-more}
use Rattle.viz_sheet.specs.Sheet.{IsSheet}
use Rattle.viz_kept.proofs.whole.know_all.Goals as goal

pub loop-sheet-preserved : goal.loop-sheet-preserved
loop-sheet-preserved c =
    let below : c.loop-sheet.sheet-index < length c.args.sheets.now = search rules in
    record { each = All-more IsSheet c.args.sheets.now c.loop-sheet.sheet-index c.sheet-item.result below c.loop-sheet.invariant.each (subst IsSheet c.sheet-item.is c.known.ensures.valid) }
