use Rattle.std.proofs.Common.{sym, subst}
use Rattle.viz_executive.specs.Steps.Tables.{AreExact}
use Rattle.viz_executive.proofs.reads.give_up.Goals as goal
use Rattle.viz_executive.proofs.reads.give_up.Goals.{else-until-place, then-until-place}

pub loop-place-preserved : goal.loop-place-preserved
loop-place-preserved c = record {
  exact = λ net h.
      let before = c.loop-place.invariant.exact net h in
      elim c.if-until-place.branch [
        | then-until-place w ↦ subst (λ t. AreExact net t.items) (sym w.table-is) (w.clear.ensures net before)
        | else-until-place w ↦ subst (λ t. AreExact net t.items) (sym w.table-is) before
      ];
}
