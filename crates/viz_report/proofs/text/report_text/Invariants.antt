use Rattle.std.proofs.Common.{◌≡◌, take}
use Rattle.viz_report.specs.Report.{rows_text}
use Rattle.viz_report.proofs.text.report_text.Given as goal

abbrev pub invariant-loop-row : goal.invariant-loop-row
invariant-loop-row l = l.text.items ≡ rows_text (take l.row-index l.rows)
