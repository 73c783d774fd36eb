use Rattle.viz_account.specs.declared.made.Made.{Made}
use Rattle.viz_account.proofs.MadeLemmas.{plan_stopped, stop_without}
use Rattle.viz_account.proofs.planned.make_by_plan.Goals as goal

pub returns-in-Err : goal.returns-in-Err
returns-in-Err g c =
    let net = c.args.net.now in
    let id = c.args.sink.0 in
    let stop = c.in-Err.stop in
    let fault = c.in-Err.ensures.fault in
    record {
      file = plan_stopped net id stop fault;
      ran = tt;
      parts = stop_without Made net id stop fault;
    }
