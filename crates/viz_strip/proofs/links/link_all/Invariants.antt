use Rattle.std.proofs.Common.{◌*◌, length}
use Rattle.viz_strip.specs.Steps.Links.{HaveFirsts, HaveNexts, IsSeen}
use Rattle.viz_strip.proofs.links.link_all.Given as goal

abbrev pub invariant-loop-low : goal.invariant-loop-low
invariant-loop-low l = record {
  seen : IsSeen l.triangles l.low (3 * length l.triangles) l.seen;
  firsts : HaveFirsts l.triangles l.low (3 * length l.triangles) l.firsts;
  nexts : HaveNexts l.triangles l.low (3 * length l.triangles) l.nexts;
}
