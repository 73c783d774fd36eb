use Rattle.std.proofs.Common.{ℕ, List, subst, sym, ◌∙◌, ◌<◌}
use Rattle.std.specs.Prelude.{All}
use Rattle.viz_sheet.specs.Arrays.{ranks_in}
use Rattle.viz_strip.specs.Strips.{AreStrips, IsTriangle}
use Rattle.viz_strip_write.proofs.CellLemmas.{all-below, all-triangles}
use Rattle.viz_strip_write.proofs.text.strips_of.Goals as goal

pub ranked_strips-requires-clause-triangles : goal.ranked_strips-requires-clause-triangles
ranked_strips-requires-clause-triangles c =
    subst (All IsTriangle) (sym (c.deref.ensures.value ∙ c.in_ok-triangles.ensures)) (all-triangles c.args.points (ranks_in c.args.ranks.now) c.requires)

pub ranked_strips-requires-clause-below : goal.ranked_strips-requires-clause-below
ranked_strips-requires-clause-below c =
    subst (All (λ (t : List ℕ). All (λ (r : ℕ). r < c.args.points) t)) (sym (c.deref.ensures.value ∙ c.in_ok-triangles.ensures)) (all-below c.args.points (ranks_in c.args.ranks.now) c.requires)

pub returns : goal.returns
returns c =
    subst (λ (ts : List (List ℕ)). AreStrips ts c.in_ok-rows.rows) (c.deref.ensures.value ∙ c.in_ok-triangles.ensures) c.in_ok-rows.ensures.value
