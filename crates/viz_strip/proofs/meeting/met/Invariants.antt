use Rattle.std.proofs.Common.{◌-◌, ◌*◌, length}
use Rattle.viz_strip.specs.Steps.Links.{IsMet, LeadOn}
use Rattle.viz_strip.specs.Steps.Sides.{from_of, to_of}
use Rattle.viz_strip.proofs.meeting.met.Given as goal

abbrev pub invariant-loop-nexts : goal.invariant-loop-nexts
invariant-loop-nexts l = record {
  met : IsMet l.triangles l.marks (to_of l.triangles l.side) (from_of l.triangles l.side) 0 l.at;
  nexts : LeadOn l.triangles l.marks l.nexts;
}

abbrev pub decreases-loop-nexts : goal.decreases-loop-nexts
decreases-loop-nexts l = 3 * length l.triangles - l.at
