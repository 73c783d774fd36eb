use Rattle.std.proofs.Common.{Option, refl, ap, subst, arith}
use Rattle.viz_source.specs.Readers.{Reader}
use Rattle.viz_console.specs.declared.ending.End.{End}
use Rattle.viz_console.specs.Lines.{Place}
use Rattle.viz_console.specs.Steps.Serving.{GoesTo}
use Rattle.viz_console.proofs.EndLemmas.{begun}
use Rattle.viz_console.proofs.session.serve_lines.Goals as goal

pub lines-init : goal.lines-init
lines-init g c = record {
  far = begun g.S.Source g.P.Port g.O.Out c.args.hub.now.mark c.args.pass c.args.source.now c.args.port.now c.args.out.now c.start-place.result c.args.pass c.args.reader c.start-place.ensures refl c.requires.fresh;
  same = refl;
  counted = let none = ap (λ (p : Place). p.lines) c.start-place.ensures in omega (arith, none);
  within = let none = ap (λ (r : Reader). r.passed) c.requires.fresh in omega (arith, none);
}

pub returns-in-Some-clause-ended : goal.returns-in-Some-clause-ended
returns-in-Some-clause-ended g c =
    subst (λ (came : Option End). GoesTo g.S.Source g.P.Port g.O.Out c.args.hub.now.mark c.args.pass c.args.source.now c.args.port.now c.args.out.now came c.turn-back.new.reader c.turn-back.new.place c.turn-back.result.0 c.turn-back.new.source c.turn-back.new.port c.turn-back.new.out) c.in-Some.is
    (c.turn-back.ensures.goes c.args.pass c.args.source.now c.args.port.now c.args.out.now c.lines.invariant.same c.lines.invariant.far)
