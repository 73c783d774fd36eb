use Rattle.std.proofs.Common.{ℕ, List, take, subst, ◌∙◌}
use Rattle.std.specs.List.{flat_map}
use Rattle.viz_flags.specs.Flags.{flags as bits_of}
use Rattle.viz_sheet.specs.Steps.Marking.{IsMarkedBy}
use Rattle.viz_sheet.proofs.MarkingLemmas.{cell_marked, flat-more}
use Rattle.viz_flags.proofs.flags.set_all.Goals as goal

pub loop-triangle-preserved : goal.loop-triangle-preserved
loop-triangle-preserved g c =
    let list = g.T.Ends.list in
    let ts = c.args.triangles.now in
    let i = c.loop-triangle.triangle-index in
    let item = c.triangle-item.result in
    let old = bits_of c.loop-triangle.flags in
    let new = bits_of c.set_three.new.flags in
    let marked : IsMarkedBy old (list item) new = subst (λ (cell : List ℕ). IsMarkedBy old cell new) c.numbers.ensures c.set_three.ensures.bits in
    let here = subst (λ x. IsMarkedBy old (list x) new) c.triangle-item.is marked in
    record {
      bits =
          rw (flat-more list ts i item c.loop-triangle-test.true)
          (cell_marked (bits_of c.args.flags.now) (flat_map list (take i ts)) old (list _) new c.loop-triangle.invariant.bits here);
      size = c.set_three.ensures.size ∙ c.loop-triangle.invariant.size;
    }
