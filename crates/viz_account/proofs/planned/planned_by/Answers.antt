use Rattle.std.proofs.Common.{Ok, sym, ap, subst}
use Rattle.viz_base.specs.declared.node.NodeId.{NodeId}
use Rattle.viz_node_meaning.specs.Scratch.{IsScratch}
use Rattle.viz_account.proofs.MadeLemmas.{plan_ran}
use Rattle.viz_account.proofs.planned.planned_by.Goals as goal

pub returns : goal.returns
returns g c =
    let net = c.args.net.now in
    let sink = c.parts_of-parts.ensures.sink in
    let dataset = c.args.produced.dataset in
    record {
      file = c.file_by-file.ensures;
      ran = plan_ran net c.args.shape.now.pieces c.args.sink.0 c.args.entries.now c.args.produced
          c.file_by-file.result
          c.requires.entries c.requires.plan;
      parts = (
        ap (λ (i : NodeId). i.0) sink,
        record {
          dataset = dataset;
          given = subst (λ (i : NodeId). IsScratch net i.0 (Ok dataset)) (sym sink)
              c.requires.given;
          plan = c.parts_of-parts.ensures.plan;
        },
      );
    }
