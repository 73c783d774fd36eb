use Rattle.std.proofs.Common.{◌∙◌, sym, ap, Some, IsSome, rules}
use Rattle.viz_network.specs.Network.{node_of}
use Rattle.viz_network.proofs.OrderLemmas.{stamp_there}
use Rattle.viz_network.proofs.net.Net.stamp.Goals as goal

pub returns : goal.returns
returns c = record {
  value =
      let there : IsSome (node_of c.args.self.now c.args.node.0) = search rules in
      let value = stamp_there c.args.self.now c.args.node.0 there in
      ap (λ n. Some n) c.stamp_in.ensures ∙ rw c.self.view_is (sym value);
}
