use Rattle.std.proofs.Common.{◌≡◌, ◌++◌, [], ◌∷◌, IsTrue, subst, ap, rules}
use Rattle.viz_base.specs.declared.call.Call.TheVariants.{Read}
use Rattle.viz_base.specs.declared.call.ReadAnswer.TheVariants as read
use Rattle.viz_script.specs.Orders.{load}
use Rattle.viz_report.specs.declared.line.Line.TheVariants as line
use Rattle.viz_report.specs.declared.line.Reason.TheVariants as reason
use Rattle.viz_account.specs.Account.{RoseBy}
use Rattle.viz_account.specs.Served.{Serves}
use Rattle.viz_actor.proofs.ServeLemmas.{serves_too_long}
use Rattle.viz_actor.proofs.serving.load.Goals as goal

pub returns-in-Err-TooLong-clause-serves : goal.returns-in-Err-TooLong-clause-serves
returns-in-Err-TooLong-clause-serves g c =
    let p = c.args.pass.now in
    let h = c.front.new.pass.seen in
    let taken = c.in-Err-TooLong.field-0-0 in
    let told : IsTrue g.P.Port.tells_calls → g.P.Port.calls c.read.new.self ≡ g.P.Port.calls c.args.port.now ++ Read c.args.file.now (read.TooLong taken) ∷ [] = search rules in
    let rose : RoseBy 0 (g.P.Port.faults c.args.port.now) (g.P.Port.faults c.read.new.self) = search rules in
    subst (λ limit. Serves g.P.Port limit p.number (load c.args.node.now c.args.file.now) (line.Refused reason.TooLong c.front.result) p.seen h c.args.port.now c.read.new.self) (ap (λ t. t.mark) c.requires.belongs)
    (serves_too_long g.P.Port p h c.front.ensures.looks.further c.args.node.now c.args.file.now c.front.result taken c.args.port.now c.read.new.self c.front.ensures.at told rose)
