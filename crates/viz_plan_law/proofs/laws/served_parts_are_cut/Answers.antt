use Rattle.viz_plan_law.proofs.CutLemmas as lemma
use Rattle.viz_plan_law.proofs.ServeLemmas.{served_covers}
use Rattle.viz_plan_law.proofs.laws.served_parts_are_cut.Goals as goal

pub returns : goal.returns
returns c =
    let only = c.divisions_share_out.ensures.only in
    let ports = c.divided_by_ports.ensures.ports in
    record {
      covers = served_covers;
      lets = lemma.served_lets only;
      cut = lemma.served_cut only;
      widened = lemma.widened_cut only ports;
      known = lemma.known_cut only ports;
      exact = lemma.node_exact;
    }
