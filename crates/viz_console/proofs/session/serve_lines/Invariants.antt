use Rattle.std.proofs.Common.{◌≤◌, ◌-◌}
use Rattle.viz_source.specs.declared.limits.TheConstants.{STREAM_LIMIT}
use Rattle.viz_actor.specs.Updating.{IsSamePass}
use Rattle.viz_console.specs.Steps.Serving.{IsSoFar}
use Rattle.viz_console.proofs.session.serve_lines.Given as goal

-- the lines so far were answered, and there are no more of them than bytes
abbrev pub invariant-lines : goal.invariant-lines
invariant-lines g l = record {
  far : IsSoFar g.S.Source g.P.Port g.O.Out l.hub.mark l.fn.pass l.fn.source l.fn.port l.fn.out l.reader l.place l.pass l.source l.port l.out;
  same : IsSamePass l.fn.pass l.pass;
  counted : l.place.lines ≤ l.reader.passed;
  within : l.reader.passed ≤ STREAM_LIMIT;
}

abbrev pub decreases-lines : goal.decreases-lines
decreases-lines g l = STREAM_LIMIT - l.reader.passed
