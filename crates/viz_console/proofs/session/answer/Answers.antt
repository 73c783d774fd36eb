use Rattle.viz_console.proofs.AnswerLemmas.{answers_nothing, answers_quit, answers_bad, answers_served}
use Rattle.viz_console.proofs.session.answer.Goals as goal

pub returns-in-Nothing-clause-answers : goal.returns-in-Nothing-clause-answers
returns-in-Nothing-clause-answers g c =
    answers_nothing g.P.Port g.O.Out c.args.hub.now.mark c.args.act.now c.args.pass c.args.port.now c.args.out.now c.in-Nothing.is

pub returns-in-Quit-clause-answers : goal.returns-in-Quit-clause-answers
returns-in-Quit-clause-answers g c =
    answers_quit g.P.Port g.O.Out c.args.hub.now.mark c.args.act.now c.args.pass c.args.port.now c.args.out.now c.in-Quit.is

pub returns-in-Bad-clause-answers : goal.returns-in-Bad-clause-answers
returns-in-Bad-clause-answers g c =
    answers_bad g.P.Port g.O.Out c.args.hub.now.mark c.args.act.now _ _ c.tell_bad.result c.args.pass c.args.port.now c.args.out.now c.tell_bad.new.out c.in-Bad.is c.tell_bad.ensures.puts

pub returns-in-Serve-clause-answers : goal.returns-in-Serve-clause-answers
returns-in-Serve-clause-answers g c =
    answers_served g.P.Port g.O.Out c.args.hub.now.mark c.args.act.now _ _ c.serve_order-pass.result.1 c.tell_line.result c.args.pass c.serve_order-pass.result.0 c.args.port.now c.serve_order-pass.new.port c.args.out.now c.tell_line.new.out
    c.in-Serve.is c.serve_order-pass.ensures.serves c.tell_line.ensures.puts
