use Rattle.viz_surface_law.specs.declared.audits.Counts.{Counts}
use Rattle.viz_account.proofs.CountLemmas.{count_stopped}
use Rattle.viz_account.proofs.MadeLemmas.{stop_without}
use Rattle.viz_account.proofs.surface.count_by_plan.Goals as goal

pub returns-in-Err : goal.returns-in-Err
returns-in-Err g c =
    let net = c.args.net.now in
    let id = c.args.node.0 in
    let stop = c.in-Err.stop in
    let fault = c.in-Err.ensures.fault in
    record { counts = count_stopped net id stop fault; parts = stop_without Counts net id stop fault }
