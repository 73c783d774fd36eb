use Rattle.std.proofs.Common.{◌≡◌, ◌∙◌, ◌<◌, None, length, sym, rules, arith}
use Rattle.std.proofs.lemmas.Option.{slice_get-get_or}
use Rattle.viz_network.specs.Cone.{stamp_of}
use Rattle.viz_network.proofs.OrderLemmas.{stamp_nowhere}
use Rattle.viz_network.proofs.RankLemmas.{none_at_rank}
use Rattle.viz_network.proofs.stamps.Stamps.of.Goals as goal

pub returns-in_err-rank : goal.returns-in_err-rank
returns-in_err-rank c = record {
  value =
      let net = c.self.inside.nodes.now.entries in
      let none : stamp_of net c.args.node.0 ≡ None = stamp_nowhere net c.args.node.0 (none_at_rank net c.args.node.0 (sym c.in_err-rank.ensures.value)).0 in
      search (rules, none);
}

pub returns : goal.returns
returns c = record {
  value =
      let within : c.in_ok-rank.rank < length c.self.inside.stamps = omega (arith, c.in_ok-rank.ensures.within, c.self.invariant.size, c.self.invariant.few) in
      let here = slice_get-get_or c.self.inside.stamps c.in_ok-rank.rank 0 within in
      sym here ∙ rw (← c.self.view_is) (c.self.invariant.each c.args.node.0 c.in_ok-rank.rank (sym c.in_ok-rank.ensures.value));
}
