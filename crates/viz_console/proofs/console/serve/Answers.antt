use Rattle.viz_console.proofs.AccountLemmas.{session_of, no_session}
use Rattle.viz_console.proofs.EndLemmas.{ends_as}
use Rattle.viz_console.proofs.console.serve.Goals as goal

-- memory was wanting at the start

pub returns-in_default-clause-session : goal.returns-in_default-clause-session
returns-in_default-clause-session g c =
    no_session g.P.Port c.lines_count_edits.ensures.counts c.audit_lines_are_closed.ensures.closed g.S.Source g.O.Out c.args.source.now c.args.port.now c.args.out.now

pub returns-in_default-start-clause-session : goal.returns-in_default-start-clause-session
returns-in_default-start-clause-session g c =
    no_session g.P.Port c.lines_count_edits.ensures.counts c.audit_lines_are_closed.ensures.closed g.S.Source g.O.Out c.args.source.now c.args.port.now c.args.out.now

-- a session

pub returns-clause-session : goal.returns-clause-session
returns-clause-session g c =
    let hub = c.in-Ok-start.hub in
    let served = c.serve_lines-pass in
    let closed = c.close-journal in
    session_of g.P.Port c.lines_count_edits.ensures.counts c.audit_lines_are_closed.ensures.closed g.S.Source g.O.Out hub c.in-Ok-start.pass served.result.0 closed.result.entries served.result.1
    c.args.source.now served.new.source c.args.port.now served.new.port c.args.out.now served.new.out
    c.in-Ok-start.ensures.pass c.in-Ok-start.ensures.limit served.ensures.same served.ensures.ended closed.ensures.legal closed.ensures.within
    (λ own. c.journal_is_of_joined_passes.ensures.all served.result.0 closed.result.entries closed.ensures.further own) closed.ensures.whole

pub returns-clause-ends : goal.returns-clause-ends
returns-clause-ends g c told =
    let it = returns-clause-session g c in
    ends_as g.S.Source g.O.Out it.lines it.replies c.args.source.now c.serve_lines-pass.new.source c.args.out.now c.serve_lines-pass.new.out c.serve_lines-pass.result.1 told it.ended
