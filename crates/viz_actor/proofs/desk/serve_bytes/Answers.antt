use Rattle.std.proofs.Common.{rules, map}
use Rattle.viz_script.specs.Script.{stepped}
use Rattle.viz_actor.proofs.StepsLemmas.{served_behind}
use Rattle.viz_actor.proofs.desk.serve_bytes.Goals as goal

pub returns : goal.returns
returns g c =
    let served = c.in-Ok-serve_script.field-0 in
    served_behind g.P.Port c.args.bytes.now c.args.journal.now (map stepped c.deref-2.result.now) served.rows.items served.history.items c.args.ports.now.items c.serve_script.new.ports.items c.keep.result c.args.desk.now c.keep.new.desk
    (search rules) c.audit_lines_are_closed.ensures.closed c.lines_count_edits.ensures.counts c.in-Ok-serve_script.ensures.ok c.keep.ensures
