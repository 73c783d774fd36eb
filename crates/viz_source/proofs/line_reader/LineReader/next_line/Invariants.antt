use Rattle.std.proofs.Common.{◌≡◌, ◌≤◌, ◌+◌, ◌-◌, IsTrue, cond}
use Rattle.viz_source.specs.declared.limits.TheConstants.{STREAM_LIMIT, PIECE}
use Rattle.viz_source.specs.Readers.{taken, NeedsNoPull}
use Rattle.viz_source.specs.Steps.Reading.{IsOpen}
use Rattle.viz_source.proofs.line_reader.LineReader.next_line.Given as goal

-- the bytes that were taken since the start are kept of the line, and nothing was pulled where
-- nothing had to be
abbrev pub invariant-loop-self : goal.invariant-loop-self
invariant-loop-self g l = record {
  open_line : IsOpen g.S.Source.tells_bytes l.initial.self l.self (g.S.Source.left l.initial.source) (g.S.Source.left l.source);
  over : IsTrue l.self.ended → l.self.passed ≤ STREAM_LIMIT;
  same_reader : NeedsNoPull l.initial.self → l.self ≡ l.initial.self;
  same_source : NeedsNoPull l.initial.self → l.source ≡ l.initial.source;
  later : g.S.Source.faults l.initial.source ≤ g.S.Source.faults l.source;
}

abbrev pub decreases-loop-self : goal.decreases-loop-self
decreases-loop-self g l = STREAM_LIMIT + PIECE + 1 - taken l.self + cond l.self.ended 0 1
