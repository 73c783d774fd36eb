use Rattle.std.proofs.Common.{sym, subst, ◌∙◌, Err}
use Rattle.viz_network.specs.Network.{named}
use Rattle.viz_account.specs.Steps.Made.{Makes}
use Rattle.viz_account.proofs.MadeLemmas.{found, stopped_missing}
use Rattle.viz_account.proofs.made.made_of.Goals as goal

pub returns-in-Err : goal.returns-in-Err
returns-in-Err c =
    let x = found (named c.args.net.now c.args.node.now) c.in-Some.id (sym c.find.ensures.value ∙ c.in-Some.is) in
    stopped_missing c.args.net.now c.args.node.now x.0 c.in-Err.stop c.missing_of.result x.1
    (subst (λ id. Makes c.args.net.now id.0 (Err c.in-Err.stop)) (sym x.2) c.in-Err.ensures) c.missing_of.ensures
