use Rattle.viz_fraction.proofs.CaseTable.{mask_below}
use Rattle.viz_fraction.proofs.CaseValue.{case_in_code-case_at}
use Rattle.viz_fraction.proofs.case_table.cells_of.Goals as goal

pub bounds-mask : goal.bounds-mask
bounds-mask c = mask_below c.args.corners c.args.mask c.requires.known

pub returns : goal.returns
returns c = record {
  value = case_in_code-case_at _ _ _ c.args.corners c.args.mask c.requires.known;
}
