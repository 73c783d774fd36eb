use Rattle.std.proofs.Common.{◌≤◌, ◌^◌, length, subst}
use Rattle.viz_sheet.specs.Sheet.{IsSheet, SheetData}
use Rattle.viz_sheet.proofs.SheetLemmas.{is_sheet}
use Rattle.viz_sheet.proofs.sheet.Sheet.known.Goals as goal

pub returns-clause-valid : goal.returns-clause-valid
returns-clause-valid c = subst IsSheet c.self.view_is (is_sheet _ _ _ c.self.invariant)

pub returns-clause-few : goal.returns-clause-few
returns-clause-few c = subst (λ (s : SheetData). length s.names ≤ 2 ^ 32) c.self.view_is c.self.invariant.rule.few
