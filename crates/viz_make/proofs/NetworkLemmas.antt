-- The network in which a made volume is contoured, and what lies upstream of its contour.
use Rattle.std.proofs.Common.{◌≡◌, ℕ, zero, suc, pos, true, false, List, [], ◌∷◌, None, Some, refl, ap, ◌∙◌}
use Rattle.std.specs.Prelude.{replicate}
use Rattle.viz_base.specs.declared.node.Pick.TheVariants.{First}
use Rattle.viz_kinds.specs.declared.settings.Settings.TheVariants as settings
use Rattle.viz_network.specs.declared.node.Node.{Node}
use Rattle.viz_network.specs.Cone.{Cone, Tree, none, empty, fed, cone_of}
use Rattle.viz_network.specs.Network.{Network}
use Rattle.viz_make.specs.NarrowVolumes.{middle}
use Rattle.viz_make.specs.Steps.Contouring.{source, iso, iso_id, network_with}

-- the source
abbrev pub source_node : List ℕ → Node
source_node text = record {
  id = record { 0 = 1 };
  settings = settings.File First 0;
  release = false;
  inputs = replicate 8 None;
  file = Some text;
  stamp = 2;
}

-- the contour
abbrev pub iso_node : Node
iso_node = record {
  id = record { 0 = iso_id };
  settings = settings.Contour 1 (middle ∷ replicate 7 (pos 0));
  release = true;
  inputs = Some (record { 0 = 1 }) ∷ replicate 7 None;
  file = None;
  stamp = 6;
}

-- both, with their names
abbrev pub made_network : List ℕ → Network
made_network text = (source, source_node text) ∷ (iso, iso_node) ∷ []

-- so many empty ports
abbrev pub empties : ℕ → Cone
empties zero = none
empties (suc n) = empty (empties n)

-- the contour with what feeds it
abbrev pub iso_tree : List ℕ → Tree
iso_tree text = (iso_node, fed (source_node text) (empties 8) (empties 7))

pub network_is : (text : List ℕ) → network_with text ≡ made_network text
network_is text = refl

cone_there : (text : List ℕ) → cone_of (made_network text) iso_id ≡ Some (iso_tree text)
cone_there text = refl

pub cone_is : (text : List ℕ) → cone_of (network_with text) iso_id ≡ Some (iso_tree text)
cone_is text = ap (λ (net : Network). cone_of net iso_id) (network_is text) ∙ cone_there text
