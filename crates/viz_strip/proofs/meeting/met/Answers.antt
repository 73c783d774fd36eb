use Rattle.std.proofs.Common.{◌*◌, ◌<◌, length, arith}
use Rattle.viz_strip.specs.Steps.Sides.{from_of, to_of}
use Rattle.viz_strip.proofs.LinkLemmas.{met-through}
use Rattle.viz_strip.proofs.meeting.met.Goals as goal

pub loop-nexts-preserved : goal.loop-nexts-preserved
loop-nexts-preserved c =
    let ts = c.args.triangles.now in
    let at = c.loop-nexts.at in
    let taken = c.is_taken.ensures.yes c.loop-nexts-test.true in
    let below : at < 3 * length ts = omega (arith, taken.0, c.requires.mark_size) in
    record {
      met = met-through ts c.args.marks.now (to_of ts c.args.side) (from_of ts c.args.side) 0 at c.passed-at.result c.loop-nexts.invariant.met below taken.1 c.passed-at.ensures.value;
      nexts = c.passed-at.ensures.nexts;
    }
