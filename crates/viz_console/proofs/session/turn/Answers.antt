use Rattle.std.proofs.Common.{ap, ◌∙◌, arith}
use Rattle.viz_console.specs.Lines.{Place}
use Rattle.viz_console.proofs.LineLemmas.{behind_lines}
use Rattle.viz_console.proofs.EndLemmas.{none_heard, none_taken, one_turn}
use Rattle.viz_console.proofs.session.turn.Goals as goal

-- no line comes

pub returns-in-Err-clause-goes : goal.returns-in-Err-clause-goes
returns-in-Err-clause-goes g c root first port_first out_first same far =
    none_heard g.S.Source g.P.Port g.O.Out c.args.hub.now.mark root first port_first out_first c.args.reader.now c.args.place.now c.args.pass c.args.source.now c.args.port.now c.args.out.now far
    c.in-Err.end _ c.hear.new.source c.in-Err.ensures.hears

pub returns-in-Err-take-clause-goes : goal.returns-in-Err-take-clause-goes
returns-in-Err-take-clause-goes g c root first port_first out_first same far =
    none_taken g.S.Source g.P.Port g.O.Out c.args.hub.now.mark root first port_first out_first c.args.reader.now c.args.place.now c.args.pass c.args.source.now c.args.port.now c.args.out.now far c.hear.new.source

-- a line

pub returns-in-Ok-take-clause-goes : goal.returns-in-Ok-take-clause-goes
returns-in-Ok-take-clause-goes g c root first port_first out_first same far =
    let heard = c.in-Ok.ensures.hears in
    one_turn g.S.Source g.P.Port g.O.Out c.args.hub.now.mark root first port_first out_first c.args.reader.now c.args.place.now c.args.pass c.args.source.now c.args.port.now c.args.out.now far
    heard.0 c.in-Ok.said c.in-Ok-take.act c.hear.new.reader c.take.new.self c.answer.result.0 c.hear.new.source c.answer.new.port c.answer.new.out c.answer.result.1
    heard.1 heard.2 c.in-Ok-take.ensures.acts c.answer.ensures.answers same c.hear.ensures.later c.answer.ensures.later

pub returns-in-Ok-take-clause-counted : goal.returns-in-Ok-take-clause-counted
returns-in-Ok-take-clause-counted g c goes_on =
    let more = ap (λ (p : Place). p.lines) c.in-Ok-take.ensures.acts.after ∙ behind_lines c.args.place.now _ in
    omega (arith, more, c.requires.counted, c.in-Ok.ensures.passes)
