use Rattle.std.proofs.Common.{Ok, sym, ap, subst}
use Rattle.viz_base.specs.declared.node.NodeId.{NodeId}
use Rattle.viz_node_meaning.specs.Scratch.{IsScratch}
use Rattle.viz_account.proofs.surface.counted_by.Goals as goal

pub returns : goal.returns
returns g c =
    let net = c.args.net.now in
    let sink = c.parts_of-parts.ensures.sink in
    let dataset = c.args.produced.dataset in
    record {
      counts = c.counts_on-counts.ensures.value;
      parts = (
        ap (λ (i : NodeId). i.0) sink,
        record {
          dataset = dataset;
          given = subst (λ (i : NodeId). IsScratch net i.0 (Ok dataset)) (sym sink)
              c.requires.given;
          plan = c.parts_of-parts.ensures.plan;
        },
      );
    }
