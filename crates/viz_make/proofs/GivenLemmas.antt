-- What the contour gives in that network: the section of what its file is read as.
use Rattle.std.proofs.Common.{◌≡◌, ℕ, Bool, false, List, [], ◌∷◌, Some, Result, Ok, Err, ap, subst, ◌∙◌}
use Rattle.viz_base.specs.declared.node.Pick.TheVariants.{First}
use Rattle.viz_dataset.specs.Images.{ImageData, corner, IsImage, IsOrigin}
use Rattle.viz_dataset.specs.declared.dataset.Dataset.{Dataset}
use Rattle.viz_dataset.specs.declared.dataset.Dataset.TheVariants.{Image, Mesh}
use Rattle.viz_fraction.specs.Forms.{contour_form}
use Rattle.viz_image_write.specs.ImageText.{image_text}
use Rattle.viz_legacy_read.specs.Reading.{Reads}
use Rattle.viz_meaning.specs.Section.{sections_of}
use Rattle.viz_meaning.specs.Tetrahedra.{sheets_of}
use Rattle.viz_network.specs.declared.fault.Cause.{Cause}
use Rattle.viz_network.specs.declared.fault.Fault.{Fault}
use Rattle.viz_network.specs.declared.node.Node.{Node}
use Rattle.viz_network.specs.Network.{Network}
use Rattle.viz_node_meaning.specs.declared.information.Information.{Information}
use Rattle.viz_node_meaning.specs.Data.{DataRule}
use Rattle.viz_node_meaning.specs.Fold.{at_node, filled, joined, IsMade, IsGiven}
use Rattle.viz_node_meaning.specs.Rules.{Inputs}
use Rattle.viz_node_meaning.specs.Scratch.{IsBehind, IsScratch, IsScratchOf}
use Rattle.viz_round_trip.specs.RoundTrip.{moved}
use Rattle.viz_make.specs.Make.{Make, image_of, volume_text}
use Rattle.viz_make.specs.NarrowVolumes.{middle}
use Rattle.viz_make.specs.Steps.Contouring.{contour_again, iso_id, network_with, IsWritable}
use Rattle.viz_make.proofs.NetworkLemmas.{cone_is, iso_node, iso_tree, source_node}

-- the text of an image is read as nothing but the image
abbrev pub OnlyRead : Type 0
OnlyRead =
    (later binary : Bool) (unit : ℕ) (i : ImageData) (d : Dataset) → IsImage i → IsOrigin (corner i)
    → Reads (image_text later binary i) First unit d → d ≡ Image (moved i)

-- what the rule makes is no fault
own_made : (node : Node) (inputs : Inputs Dataset) (d : Dataset) (value : Result Dataset Cause) → DataRule node inputs value
    → Ok d ≡ at_node node value → DataRule node inputs (Ok d)
own_made node inputs d (Ok y) made is = subst (λ z. DataRule node inputs (Ok z)) (let e : y ≡ d = cc in e) made
own_made node inputs d (Err cause) made is = let bad : ⊥ = cc in absurd bad

module _ (text : List ℕ) where
  -- ---- the source

  source_made : (e : Dataset) (inputs : Result (Inputs Dataset) Fault) → IsMade DataRule (source_node text) inputs (Ok e) → Reads text First 0 e
  source_made e (Err fault) made = let bad : ⊥ = cc in absurd bad
  source_made e (Ok inputs) made = own_made (source_node text) inputs e made.0 made.1 made.2

  -- ---- the contour

  -- the contour's dataset is of the one that the source's file is read as
  record IsContoured (d : Dataset) : Type 0 where
    read : Dataset
    reads : Reads text First 0 read
    is : d ≡ Mesh (sections_of (contour_form middle ∷ []) (sheets_of read))

  iso_made : (d : Dataset) (own : Result (Inputs Dataset) Fault) (value : Result Dataset Fault) (rest inputs : Result (Inputs Dataset) Fault)
      → IsMade DataRule (source_node text) own value → inputs ≡ joined (filled value) rest → IsMade DataRule iso_node inputs (Ok d) → IsContoured d
  iso_made d own (Err fault) rest inputs first is made =
      let here : IsMade DataRule iso_node (Err fault) (Ok d) = subst (λ i. IsMade DataRule iso_node i (Ok d)) is made in
      let bad : ⊥ = cc in absurd bad
  iso_made d own (Ok e) (Err fault) inputs first is made =
      let here : IsMade DataRule iso_node (Err fault) (Ok d) = subst (λ i. IsMade DataRule iso_node i (Ok d)) is made in
      let bad : ⊥ = cc in absurd bad
  iso_made d own (Ok e) (Ok rest) inputs first is made =
      let here : IsMade DataRule iso_node (Ok (Some e ∷ rest)) (Ok d) = subst (λ i. IsMade DataRule iso_node i (Ok d)) is made in
      let section = own_made iso_node (Some e ∷ rest) d here.0 here.1 here.2 in
      record { read = e; reads = source_made e own first; is = section.1 }

  iso_given : (d : Dataset) → IsGiven DataRule (Some (iso_tree text)) (Ok d) → IsContoured d
  iso_given d g = let ports = g.1 in iso_made d ports.0 ports.1 ports.2 g.0 ports.4 ports.6 g.2

  iso_scratch : (d : Dataset) → IsScratchOf (Some (iso_tree text)) (Ok d) → IsContoured d
  iso_scratch d s = behind s.0 s.2
    where
      behind : (i : Result Information Fault) → IsBehind i (Some (iso_tree text)) (Ok d) → IsContoured d
      behind (Err fault) b = let bad : ⊥ = cc in absurd bad
      behind (Ok i) b = iso_given d b

-- the contour's dataset is the contour of the volume as it is read again
pub contour_is : OnlyRead → (c : Make) (net : Network) (text : List ℕ) (d : Dataset) → IsWritable c → net ≡ network_with text → text ≡ volume_text c
    → IsScratch net iso_id (Ok d) → d ≡ Mesh (contour_again c ∷ [])
contour_is only c net text d writable net_is text_is given =
    let there : IsScratch (network_with text) iso_id (Ok d) = subst (λ (n : Network). IsScratch n iso_id (Ok d)) net_is given in
    let made = iso_scratch text d (subst (λ t. IsScratchOf t (Ok d)) (cone_is text) there) in
    let reads : Reads (volume_text c) First 0 made.read = subst (λ (t : List ℕ). Reads t First 0 made.read) text_is made.reads in
    let read : made.read ≡ Image (moved (image_of c)) = only false false 0 (image_of c) made.read writable.image writable.origin reads in
    made.is ∙ ap (λ e. Mesh (sections_of (contour_form middle ∷ []) (sheets_of e))) read
