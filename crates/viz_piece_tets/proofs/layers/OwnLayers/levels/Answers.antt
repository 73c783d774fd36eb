use Rattle.std.proofs.Common.{◌++◌, replicate, sym, ap₂, ◌∙◌, arith}
use Rattle.viz_piece_tets.proofs.PlaneLemmas.{between-all, between-more}
use Rattle.viz_piece_tets.proofs.layers.OwnLayers.levels.Goals as goal

pub loop-z-preserved : goal.loop-z-preserved
loop-z-preserved c =
    c.in_ok-push_layer.ensures
    ∙ ap₂ (λ items level. items ++ replicate c.args.size level) c.loop-z.invariant c.distance.ensures.value
    ∙ sym (between-more c.args.self.now.first c.args.self.now.next c.args.size c.args.low c.loop-z.z c.loop-z.auto.z)

pub returns : goal.returns
returns c = record {
  value = c.loop-z.invariant ∙ between-all c.args.self.now.first c.args.self.now.next c.args.size c.args.low c.args.high c.loop-z.z (omega arith);
}
