use Rattle.viz_network.specs.Steps.Places.{place_told}
use Rattle.viz_network.proofs.EightLemmas.{each_of_eight}
use Rattle.viz_network.proofs.steps.places_of.Goals as goal

pub returns : goal.returns
returns c = each_of_eight (place_told c.args.nodes.now.entries c.args.places.now) _ c.args.inputs.now c.told-inputs _ _ _ _ _ _ _ _
    c.place_of.ensures c.place_of-2.ensures c.place_of-3.ensures c.place_of-4.ensures c.place_of-5.ensures c.place_of-6.ensures c.place_of-7.ensures c.place_of-8.ensures
