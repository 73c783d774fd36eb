use Rattle.std.proofs.Common.{subst}
use Rattle.viz_turn.proofs.TaleLemmas.{further_still}
use Rattle.viz_hub.specs.Passes.{numbers}
use Rattle.viz_entries.specs.History.{by_of, network_of}
use Rattle.viz_account.specs.Answers.{HandsOut, missing_in}
use Rattle.viz_actor.specs.Updating.{Publishes}
use Rattle.viz_actor.proofs.ServeLemmas.{update_nothing, handed_further, handed_plan}
use Rattle.viz_actor.proofs.updating.update.Goals as goal

pub returns-in-Err-clause-updates : goal.returns-in-Err-clause-updates
returns-in-Err-clause-updates g c =
    update_nothing g.P.Port c.args.sink.now c.args.file.now c.args.shape.now c.args.pass
    c.in-Err.pass c.args.port.now c.in-Err.ensures.err

pub returns-clause-further : goal.returns-clause-further
returns-clause-further g c =
    let pass = c.args.pass in
    let new = c.hand_in.result in
    let shape = c.args.shape.now in
    let parts = c.update_pinned-answer.result.1 in
    let seen = c.in-Ok.pin.pass.seen in
    let looks = c.in-Ok.ensures.ok in
    further_still by_of (numbers pass) (numbers pass) pass.seen seen new.seen (λ x h. h)
    looks.further
    (handed_further pass new seen shape parts
    (subst (λ q. Publishes seen shape parts q new) looks.same c.hand_in.ensures))

pub hand_in-requires-clause-plan : goal.hand_in-requires-clause-plan
hand_in-requires-clause-plan g c =
    let pin = c.in-Ok.pin in
    let net = network_of pin.pass.seen in
    let pieces = c.args.shape.now.pieces in
    let node = c.args.sink.now in
    let cause = missing_in c.update_pinned-answer.result.0 in
    let parts = c.update_pinned-answer.result.1 in
    let pinned = c.pinned.result.now in
    handed_plan net pin.entries pieces node cause parts
    (subst (λ e. HandsOut net e pieces node cause parts) c.pinned.ensures.entries
    (subst (λ n. HandsOut n pinned.entries pieces node cause parts) c.pinned.ensures.network
    c.update_pinned-answer.ensures.parts))
