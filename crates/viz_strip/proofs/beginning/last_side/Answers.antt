use Rattle.std.proofs.Common.{◌∙◌, sym}
use Rattle.viz_strip.specs.Steps.Marks.{left}
use Rattle.viz_strip.proofs.GrowthLemmas.{begun-as-listed, begun-at-first, begun-at-second, begun-at-third}
use Rattle.viz_strip.proofs.beginning.last_side.Goals as goal

pub returns-then-is_met-clause-value : goal.returns-then-is_met-clause-value
returns-then-is_met-clause-value c =
    let ts = c.args.triangles.now in
    begun-at-second ts (left c.args.marks.now ts) c.args.index (c.requires.sides.triangle c.args.index c.requires.within).three (sym c.is_met.ensures.value ∙ c.if-is_met.true)

pub returns-then-is_met-2-clause-value : goal.returns-then-is_met-2-clause-value
returns-then-is_met-2-clause-value c =
    let ts = c.args.triangles.now in
    begun-at-third ts (left c.args.marks.now ts) c.args.index (c.requires.sides.triangle c.args.index c.requires.within).three (sym c.is_met.ensures.value ∙ c.if-is_met.false) (sym c.is_met-2.ensures.value ∙ c.if-is_met-2.true)

pub returns-then-is_met-3-clause-value : goal.returns-then-is_met-3-clause-value
returns-then-is_met-3-clause-value c =
    let ts = c.args.triangles.now in
    begun-at-first ts (left c.args.marks.now ts) c.args.index (c.requires.sides.triangle c.args.index c.requires.within).three (sym c.is_met.ensures.value ∙ c.if-is_met.false) (sym c.is_met-2.ensures.value ∙ c.if-is_met-2.false)
    (sym c.is_met-3.ensures.value ∙ c.if-is_met-3.true)

pub returns-clause-value : goal.returns-clause-value
returns-clause-value c =
    let ts = c.args.triangles.now in
    begun-as-listed ts (left c.args.marks.now ts) c.args.index (c.requires.sides.triangle c.args.index c.requires.within).three (sym c.is_met.ensures.value ∙ c.if-is_met.false) (sym c.is_met-2.ensures.value ∙ c.if-is_met-2.false)
    (sym c.is_met-3.ensures.value ∙ c.if-is_met-3.false)
