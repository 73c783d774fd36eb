use Rattle.std.proofs.Common.{refl, sym, subst}
use Rattle.std.proofs.lemmas.List.{take_all}
use Rattle.viz_surface_law.specs.Surfaces.{IsSurface}
use Rattle.viz_account.specs.Audited.{AreSums}
use Rattle.viz_account.proofs.SumLemmas.{sums_more}
use Rattle.viz_account.proofs.sums.audit_all.Goals as goal

pub loop-sheet-init : goal.loop-sheet-init
loop-sheet-init c = record { sides = refl; two = refl; lone = refl; border = refl }

pub audit-requires : goal.audit-requires
audit-requires c = record { surface = subst (IsSurface c.args.whole.now) (sym c.sheet-item.is) (c.requires c.loop-sheet.sheet-index c.sheet-item.result c.loop-sheet-test.true) }

pub loop-sheet-preserved : goal.loop-sheet-preserved
loop-sheet-preserved c =
    let counts = c.in_ok-counts.ensures in
    sums_more c.args.whole.now c.args.sheets.now c.loop-sheet.sheet-index c.sheet-item.result c.loop-sheet-test.true c.sheet-item.is
    c.loop-sheet.total c.in_ok-counts.counts c.in_ok-total.total c.loop-sheet.invariant counts.sides counts.two counts.lone counts.border c.in_ok-total.ensures

pub returns : goal.returns
returns c = subst (λ s. AreSums c.args.whole.now s c.loop-sheet.total) (take_all c.loop-sheet.sheet-index c.args.sheets.now c.loop-sheet-test.false) c.loop-sheet.invariant
