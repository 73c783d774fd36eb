use Rattle.std.proofs.Common.{[], ◌∷◌, sym, ◌∙◌}
use Rattle.viz_surface_law.specs.Facets.{is_on_boundary}
use Rattle.viz_surface_law.specs.Surfaces.{edge_named}
use Rattle.viz_surface_law.proofs.BorderLemmas.{by_high, by_low}
use Rattle.viz_surface_law.proofs.boundary.lies_on_boundary.Goals as goal

pub returns-then-is_one_of : goal.returns-then-is_one_of
returns-then-is_one_of c = record {
  value =
      c.facet_on_boundary.ensures.value
      ∙ (λ t. is_on_boundary c.args.whole.now (c.from.ensures t ∷ c.from-then-is_one_of.ensures t ∷ c.from-then-is_one_of-2.ensures t ∷ []))
      ∙ by_high c.args.whole.now (edge_named c.args.tail.now) (edge_named c.args.head.now) (sym c.is_one_of.ensures ∙ c.if-is_one_of.true);
}

pub returns-then-is_one_of-2 : goal.returns-then-is_one_of-2
returns-then-is_one_of-2 c = record {
  value =
      c.facet_on_boundary-then-is_one_of-2.ensures.value
      ∙ (λ t. is_on_boundary c.args.whole.now (c.from-then-is_one_of-2-2.ensures t ∷ c.from-then-is_one_of-2-3.ensures t ∷ c.from-then-is_one_of-2-4.ensures t ∷ []))
      ∙ by_low c.args.whole.now (edge_named c.args.tail.now) (edge_named c.args.head.now) (sym c.is_one_of-else-is_one_of.ensures ∙ c.if-is_one_of-2.true);
}
