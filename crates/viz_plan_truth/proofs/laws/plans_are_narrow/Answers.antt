use Rattle.viz_plan_truth.proofs.ConeLemmas.{plans_give, plans_narrow}
use Rattle.viz_plan_truth.proofs.MakeLemmas.{plans_make}
use Rattle.viz_plan_truth.proofs.SectionLemmas.{node_narrow}
use Rattle.viz_plan_truth.proofs.laws.plans_are_narrow.Goals as goal

pub returns-clause-narrow : goal.returns-clause-narrow
returns-clause-narrow c =
    plans_narrow c.given_sections_are_narrow.ensures.narrow c.kept_parts_serve.ensures.serve
    c.serving_is_an_order.ensures.itself c.serving_is_an_order.ensures.on
    (node_narrow c.divisions_share_out.ensures.all c.pieces_make_narrow.ensures.mesh
    c.pieces_make_narrow.ensures.image c.given_meshes_are_leveled.ensures.leveled
    c.datasets_are_divided.ensures.exact)

pub returns-clause-gives : goal.returns-clause-gives
returns-clause-gives c =
    plans_give c.given_sections_are_narrow.ensures.given
    (plans_narrow c.given_sections_are_narrow.ensures.narrow c.kept_parts_serve.ensures.serve
    c.serving_is_an_order.ensures.itself c.serving_is_an_order.ensures.on
    (node_narrow c.divisions_share_out.ensures.all c.pieces_make_narrow.ensures.mesh
    c.pieces_make_narrow.ensures.image c.given_meshes_are_leveled.ensures.leveled
    c.datasets_are_divided.ensures.exact))

pub returns-clause-made : goal.returns-clause-made
returns-clause-made c =
    plans_make c.given_sections_are_narrow.ensures.given c.datasets_are_divided.ensures.given
    (plans_narrow c.given_sections_are_narrow.ensures.narrow c.kept_parts_serve.ensures.serve
    c.serving_is_an_order.ensures.itself c.serving_is_an_order.ensures.on
    (node_narrow c.divisions_share_out.ensures.all c.pieces_make_narrow.ensures.mesh
    c.pieces_make_narrow.ensures.image c.given_meshes_are_leveled.ensures.leveled
    c.datasets_are_divided.ensures.exact))
