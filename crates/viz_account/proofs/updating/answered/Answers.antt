use Rattle.std.proofs.Common.{Err, sym, subst}
use Rattle.viz_account.specs.Answers.{line_of, missing_in, without, HandsOut}
use Rattle.viz_account.specs.declared.made.Made.{Made}
use Rattle.viz_account.specs.Served.{Writes}
use Rattle.viz_account.specs.Steps.Made.{Makes, HasParts, RanFor}
use Rattle.viz_account.specs.Written.{HasRan, IsWritten}
use Rattle.viz_account.proofs.MadeLemmas.{missing_without, not_called, stop_hands, stopped_missing, wrote}
use Rattle.viz_account.proofs.updating.answered.Goals as goal

pub returns-in-Ok-clause-updates : goal.returns-in-Ok-clause-updates
returns-in-Ok-clause-updates g c =
    let net = c.args.net.now in
    let pieces = c.args._shape.now.pieces in
    let named = c.requires.named in
    let made = c.in-Ok.made in
    let ran = c.args.planned.ran in
    wrote (HasRan net pieces) g.P.Port net c.args.at c.args._node.now c.args.file.now named.found
    made ran c.write_made.result
    c.args.port.now c.write_made.new.port named.there
    (subst (λ i. IsWritten net i made.text made.cells made.points) (sym named.same)
    (subst (Makes net c.args._sink.0) c.in-Ok.is c.requires.planned.file))
    (subst (λ i. HasRan net pieces i ran) (sym named.same)
    (subst (λ f. RanFor net pieces c.args._sink.0 f ran) c.in-Ok.is c.requires.planned.ran))
    c.write_made.ensures

pub returns-in-Err-clause-updates : goal.returns-in-Err-clause-updates
returns-in-Err-clause-updates g c =
    let net = c.args.net.now in
    let Ran = HasRan net c.args._shape.now.pieces in
    let node = c.args._node.now in
    let file = c.args.file.now in
    let port = c.args.port.now in
    let named = c.requires.named in
    let stop = c.in-Err.stop in
    let gone = stopped_missing net node named.found stop c.missing_of.result named.there
    (subst (λ i. Makes net i (Err stop)) (sym named.same)
    (subst (Makes net c.args._sink.0) c.in-Err.is c.requires.planned.file)) c.missing_of.ensures in
    subst (λ a. Writes g.P.Port Ran net c.args.at node file (line_of a) port port)
    (sym c.without.ensures.value)
    (not_called Ran g.P.Port net c.args.at node file c.missing_of.result port gone)

pub returns-in-Err-clause-parts : goal.returns-in-Err-clause-parts
returns-in-Err-clause-parts g c =
    let net = c.args.net.now in
    let node = c.args._node.now in
    let id = c.args._sink.0 in
    let parts = c.args.planned.parts in
    let gone = c.missing_of.result in
    let entries = c.args._entries.now in
    let pieces = c.args._shape.now.pieces in
    subst (λ a. HandsOut net entries pieces node (missing_in a) parts) (sym c.without.ensures.value)
    (stop_hands Made net node id entries pieces c.in-Err.stop gone (missing_in (without gone c.args.at)) parts
    c.requires.named c.missing_of.ensures
    (subst (λ f. HasParts net entries pieces id f parts) c.in-Err.is c.requires.planned.parts)
    (missing_without gone c.args.at))
