use Rattle.std.proofs.Common.{sym, subst, ◌∙◌}
use Rattle.viz_kept.specs.True.{AreTrueIn}
use Rattle.viz_entries.specs.History.{edits_of, network_of}
use Rattle.viz_history.proofs.machine.Core.pin.Goals as goal

pub returns-clause-true_in : goal.returns-clause-true_in
returns-clause-true_in c =
    let core = c.self.inside in
    let h = core.history.items in
    let entries = c.new.ensures.value ∙ c.in_ok-entries.ensures.ok in
    let net = c.in_ok-copy.ensures.value ∙ c.self.invariant.network in
    subst (λ n. AreTrueIn n c.new.result) (sym net)
    (subst (AreTrueIn (network_of h)) (sym entries) (c.true_of_longer.ensures.network (edits_of h) core.cache.entries c.self.invariant.parts))
