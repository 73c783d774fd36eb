use Rattle.std.proofs.Common.{◌≡◌, true, false, Ok, Err, Result, Option, sym, ap, subst, ◌∙◌, arith}
use Rattle.std.proofs.lemmas.Result.{err_from_is_err_and}
use Rattle.viz_source.specs.declared.next_line.NextLine.{NextLine}
use Rattle.viz_source.specs.declared.next_line.StreamStop.{StreamStop}
use Rattle.viz_source.specs.declared.next_line.StreamStop.TheVariants.{Failed}
use Rattle.viz_source.specs.Streams.{Stream}
use Rattle.viz_source.specs.Readers.{Reader, stream_of, NeedsNoPull, Answers}
use Rattle.viz_source.specs.Steps.Reading.{Looks, last_measured}
use Rattle.viz_source.proofs.StreamLemmas.{tells_of}
use Rattle.viz_source.proofs.NextLemmas.{line_answers, line_is_prompt, last_answers, stop_answers, failed_answers, began_open, open_on, needs_a_pull}
use Rattle.viz_source.proofs.line_reader.LineReader.next_line.Goals as goal

-- a line that was found among the bytes that are held

pub returns-in-Some-clause-prompt : goal.returns-in-Some-clause-prompt
returns-in-Some-clause-prompt g c =
    line_is_prompt c.loop-self.self c.held_line.new.self c.in-Some.next
    (subst (λ (o : Option NextLine). Looks c.loop-self.self c.held_line.new.self (Ok o)) c.in-Some.is c.in_ok-next.ensures)

pub returns-in-Some-clause-answers : goal.returns-in-Some-clause-answers
returns-in-Some-clause-answers g c told =
    let goes_on : c.loop-self.self.ended ≡ false = sym (ap (λ (r : Reader). r.ended) c.self-in-loop-self.view_is) ∙ c.loop-self-test.true in
    let ends = subst (λ (o : Option NextLine). Looks c.loop-self.self c.held_line.new.self (Ok o)) c.in-Some.is c.in_ok-next.ensures in
    let left = g.S.Source.left c.loop-self.source in
    subst (λ (s : Stream). Answers (Ok c.in-Some.next) c.held_line.new.self.line s (stream_of c.held_line.new.self left) left)
    (ap (λ (r : Reader). stream_of r (g.S.Source.left c.args.source.now)) c.self.view_is)
    (line_answers _ _ c.loop-self.self c.held_line.new.self c.in-Some.next _ _ c.loop-self.invariant.open_line goes_on ends told)

pub returns-in-Some-clause-lines : goal.returns-in-Some-clause-lines
returns-in-Some-clause-lines g c told =
    tells_of (Ok c.in-Some.next) _ _ _ _ (returns-in-Some-clause-answers g c told)

-- no line comes

pub returns-in_err-next-clause-answers : goal.returns-in_err-next-clause-answers
returns-in_err-next-clause-answers g c told =
    let goes_on : c.loop-self.self.ended ≡ false = sym (ap (λ (r : Reader). r.ended) c.self-in-loop-self.view_is) ∙ c.loop-self-test.true in
    let p = err_from_is_err_and c.from_residual.result c.from_residual.ensures.1 in
    let stop : c.from_residual.result ≡ Err c.in_err-next.field-0.0 = p.1 ∙ ap Err p.2 in
    let left = g.S.Source.left c.loop-self.source in
    let old : Stream = stream_of c.args.self.now (g.S.Source.left c.args.source.now) in
    let new : Stream = stream_of c.held_line.new.self left in
    subst (λ (r : Result NextLine StreamStop). Answers r c.held_line.new.self.line old new left) (sym stop)
    (
    subst (λ (s : Stream). Answers (Err c.in_err-next.field-0.0) c.held_line.new.self.line s new left)
    (ap (λ (r : Reader). stream_of r (g.S.Source.left c.args.source.now)) c.self.view_is)
    (stop_answers _ _ c.loop-self.self c.held_line.new.self _ _ c.in_err-next.field-0.0 c.loop-self.invariant.open_line goes_on c.in_err-next.ensures told c.held_line.new.self.line new)
    )

pub returns-in_err-next-clause-lines : goal.returns-in_err-next-clause-lines
returns-in_err-next-clause-lines g c told =
    tells_of c.from_residual.result _ _ _ _ (returns-in_err-next-clause-answers g c told)

-- the end of the input

pub returns-clause-answers : goal.returns-clause-answers
returns-clause-answers g c told =
    let over : c.loop-self.self.ended ≡ true = sym (ap (λ (r : Reader). r.ended) c.self-in-loop-self.view_is) ∙ c.loop-self-test.false in
    let left = g.S.Source.left c.loop-self.source in
    let old : Stream = stream_of c.args.self.now (g.S.Source.left c.args.source.now) in
    let new : Stream = stream_of c.loop-self.self left in
    subst (λ (n : NextLine). Answers (Ok n) c.loop-self.self.line old new left) (sym c.last_line.ensures)
    (
    subst (λ (s : Stream). Answers (Ok (last_measured c.loop-self.self.line)) c.loop-self.self.line s new left)
    (ap (λ (r : Reader). stream_of r (g.S.Source.left c.args.source.now)) c.self.view_is)
    (last_answers _ _ c.loop-self.self _ _ c.loop-self.invariant.open_line over (c.loop-self.invariant.over over) told)
    )

pub returns-clause-lines : goal.returns-clause-lines
returns-clause-lines g c told =
    tells_of (Ok c.last_line.result) _ _ _ _ (returns-clause-answers g c told)

-- a pull

pub returns-in_err-refill-clause-answers : goal.returns-in_err-refill-clause-answers
returns-in_err-refill-clause-answers g c told =
    let goes_on : c.loop-self.self.ended ≡ false = sym (ap (λ (r : Reader). r.ended) c.self-in-loop-self.view_is) ∙ c.loop-self-test.true in
    let none = subst (λ (o : Option NextLine). Looks c.loop-self.self c.held_line.new.self (Ok o)) c.in_default.is c.in_ok-next.ensures in
    let p = err_from_is_err_and c.from_residual-in_err-refill.result c.from_residual-in_err-refill.ensures.1 in
    let why : c.in_err-refill.field-0.0 ≡ Failed = let e = c.in_err-refill.ensures.stop in cc in
    let stop : c.from_residual-in_err-refill.result ≡ Err Failed = p.1 ∙ ap Err (p.2 ∙ why) in
    let left = g.S.Source.left c.refill.new.source in
    let old : Stream = stream_of c.args.self.now (g.S.Source.left c.args.source.now) in
    let new : Stream = stream_of c.refill.new.self left in
    subst (λ (r : Result NextLine StreamStop). Answers r c.refill.new.self.line old new left) (sym stop)
    (
    subst (λ (s : Stream). Answers (Err Failed) c.refill.new.self.line s new left)
    (ap (λ (r : Reader). stream_of r (g.S.Source.left c.args.source.now)) c.self.view_is) (
      began_open _ c.loop-self.self c.loop-self.invariant.same_reader goes_on,
      failed_answers _ _ c.loop-self.self c.held_line.new.self _ _ left c.loop-self.invariant.open_line goes_on none (c.in_err-refill.ensures.err told) told,
    )
    )

pub loop-self-preserved : goal.loop-self-preserved
loop-self-preserved g c =
    let goes_on : c.loop-self.self.ended ≡ false = sym (ap (λ (r : Reader). r.ended) c.self-in-loop-self.view_is) ∙ c.loop-self-test.true in
    let none = subst (λ (o : Option NextLine). Looks c.loop-self.self c.held_line.new.self (Ok o)) c.in_default.is c.in_ok-next.ensures in
    let e = c.in_ok-refill.ensures in
    let pulled : (r : Reader) → c.loop-self.self ≡ r → NeedsNoPull r → ⊥ = λ r same ready.
    needs_a_pull c.loop-self.self goes_on none.none (subst NeedsNoPull (sym same) ready) in
    record {
      open_line = open_on _ _ c.loop-self.self c.held_line.new.self c.refill.new.self _ _ _ c.loop-self.invariant.open_line goes_on none e.bytes e.line e.passed;
      over = λ _. omega (arith, e.passed, none.within);
      same_reader = λ ready. absurd (pulled _ (c.loop-self.invariant.same_reader ready) ready);
      same_source = λ ready. absurd (pulled _ (c.loop-self.invariant.same_reader ready) ready);
      later = omega (arith, e.later, c.loop-self.invariant.later);
    }
