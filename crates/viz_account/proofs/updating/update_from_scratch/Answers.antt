use Rattle.std.proofs.Common.{refl, sym, subst}
use Rattle.viz_account.specs.Answers.{line_of}
use Rattle.viz_account.specs.Served.{Writes}
use Rattle.viz_account.specs.Written.{HasNoPlan}
use Rattle.viz_account.proofs.MadeLemmas.{not_called, wrote}
use Rattle.viz_account.proofs.updating.update_from_scratch.Goals as goal

pub returns-in-Err-clause-writes : goal.returns-in-Err-clause-writes
returns-in-Err-clause-writes g c =
    let m = g.P.Port in
    let port = c.args.port.now in
    let net = c.args.net.now in
    subst (λ a. Writes m HasNoPlan net c.args.at c.args.node.now c.args.file.now (line_of a) port
    port) (sym c.without.ensures.value)
    (not_called HasNoPlan m net c.args.at c.args.node.now c.args.file.now c.in-Err.missing port
    c.in-Err.ensures)

pub returns-clause-writes : goal.returns-clause-writes
returns-clause-writes g c =
    let made = c.in-Ok.ensures in
    wrote HasNoPlan g.P.Port c.args.net.now c.args.at c.args.node.now c.args.file.now made.0
    c.in-Ok.made 0 c.write_made.result
    c.args.port.now c.write_made.new.port made.1 made.2 refl c.write_made.ensures
