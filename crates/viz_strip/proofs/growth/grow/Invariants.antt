use Rattle.std.proofs.Common.{◌*◌, ◌<◌, length}
use Rattle.viz_strip.specs.Steps.Grown.{AreKept, HasGained, IsReady, last, second_last}
use Rattle.viz_strip.specs.Steps.Marks.{left, left_count}
use Rattle.viz_strip.specs.Steps.Sides.{from_of, to_of}
use Rattle.viz_strip.proofs.growth.grow.Given as goal

abbrev pub invariant-loop-next : goal.invariant-loop-next
invariant-loop-next l = record {
  within : l.side < 3 * length l.triangles;
  ready : IsReady l.triangles l.marks l.links.firsts.items l.links.nexts.items;
  gained : HasGained (from_of l.triangles l.first) (to_of l.triangles l.first) (left l.fn.marks l.triangles)
      l.fn.row.items l.row.items l.odd (second_last l.triangles l.odd l.side) (last l.triangles l.odd l.side)
      (left l.marks l.triangles);
  kept : AreKept l.fn.marks l.marks;
}

abbrev pub decreases-loop-next : goal.decreases-loop-next
decreases-loop-next l = left_count l.marks
