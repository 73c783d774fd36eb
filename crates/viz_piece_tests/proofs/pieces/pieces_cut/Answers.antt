use Rattle.std.proofs.Common.{◌≡◌, ap, length, subst, arith}
use Rattle.viz_piece_tests.specs.Steps.Cut.{AreCut}
use Rattle.viz_piece_tests.proofs.PieceLemmas.{cut-more}
use Rattle.viz_piece_tests.proofs.pieces.pieces_cut.Goals as goal

pub loop-p-init : goal.loop-p-init
loop-p-init c = λ sheets only. record {
  size = ap length c.new-parts.ensures.items;
  each = λ p part below. absurd (omega (arith, below));
}

pub loop-p-preserved : goal.loop-p-preserved
loop-p-preserved c = λ sheets only.
    cut-more sheets c.args.n c.args.ghosts c.loop-p.p c.loop-p.parts.items c.push.new.self.items c.in_ok-piece_cut.field-0
    (c.loop-p.invariant sheets only) (c.in_ok-piece_cut.ensures sheets only).1 c.in_ok-push.ensures.items

pub returns : goal.returns
returns c = λ sheets only.
    let end : c.loop-p.p ≡ c.args.n = omega (arith, c.loop-p-test.false, c.loop-p.auto.p-end) in
    subst (λ k. AreCut sheets c.args.n c.args.ghosts k c.loop-p.parts.items) end (c.loop-p.invariant sheets only)
