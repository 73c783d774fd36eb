use Rattle.std.proofs.Common.{◌^◌, ◌∙◌}
use Rattle.viz_strip.specs.Steps.Sides.{from_of, to_of}
use Rattle.viz_strip.proofs.GrowthLemmas.{any-met}
use Rattle.viz_strip.proofs.beginning.is_met.Goals as goal

pub returns-clause-value : goal.returns-clause-value
returns-clause-value c =
    let ts = c.args.triangles.now in
    c.is_some.ensures
    ∙ any-met ts (2 ^ 32) c.args.marks.now (to_of ts c.args.side) (from_of ts c.args.side) c.first_free.result c.requires.sides c.requires.ready.mark_size c.first_free.ensures.some c.first_free.ensures.none
