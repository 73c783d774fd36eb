use Rattle.std.proofs.Common.{◌≡◌, ◌+◌, ◌++◌, take, length, vec_capacity}
use Rattle.viz_report.specs.Report.{rows_from}
use Rattle.viz_actor.proofs.rows.put_rows.Given as goal

-- the rows of the lines so far
abbrev pub invariant-loop-i : goal.invariant-loop-i
invariant-loop-i l =
    record {
      rows : l.rows.items ≡ l.fn.rows.items ++ rows_from l.actor (l.told + 1) (take l.i l.lines);
      len : length l.rows.items ≡ length l.fn.rows.items + l.i;
      capacity : vec_capacity l.rows ≡ vec_capacity l.fn.rows;
    }
