-- The rules of a node have one result each.
use Rattle.std.proofs.Common.{◌≡◌, ℕ, List, Option, None, Some, Result, Ok, Err, refl, sym, ap, ◌∙◌}
use Rattle.viz_lex.specs.Rules.{IsDefinite}
use Rattle.viz_lex.specs.declared.fault.FileFault.{FileFault}
use Rattle.viz_legacy_read.specs.Header.{Header, Heading, header}
use Rattle.viz_legacy_read.specs.Header.Heading.{OfImage as ImageHead, OfMesh as MeshHead}
use Rattle.viz_legacy_read.specs.Reading.{front, IsInfo}
use Rattle.viz_dataset.specs.Images.{Vector, vector_of}
use Rattle.viz_dataset.specs.declared.dataset.Info.{Info}
use Rattle.viz_dataset.specs.declared.dataset.Info.TheVariants as info
use Rattle.viz_extent.specs.Extent.{Bounds}
use Rattle.viz_kinds.specs.declared.settings.Settings.{Settings}
use Rattle.viz_kinds.specs.declared.settings.Settings.TheVariants as settings
use Rattle.viz_network.specs.declared.fault.Cause.{Cause}
use Rattle.viz_network.specs.declared.fault.Cause.TheVariants.{BadFile}
use Rattle.viz_node_meaning.specs.declared.information.Grid.{Grid}
use Rattle.viz_node_meaning.specs.declared.information.Information.{Information}
use Rattle.viz_node_meaning.specs.declared.information.Information.TheVariants.{OfImage, OfMesh}
use Rattle.viz_node_meaning.specs.Rules.{Inputs}
use Rattle.viz_node_meaning.specs.Information.{IsHeaderOf, IsInformed, InformationRule, information_in, grid_of}
use Rattle.viz_node_meaning.specs.Rules.{IsOne}

-- the grid of a header
abbrev grid_in_header : Header → Grid
grid_in_header h = grid_of h.whole h.origin h.spacing

-- a header of an image isn't that of a mesh
abbrev image_or_mesh : Heading → Information
image_or_mesh (ImageHead h) = OfImage (grid_in_header h)
image_or_mesh (MeshHead p) = OfMesh

module _ (definite : IsDefinite header) where
  -- what a header gives is one
  header_one : (file : Option (List ℕ)) (a b : Result Information Cause) → IsHeaderOf file a → IsHeaderOf file b → a ≡ b
  header_one None a b p q = p ∙ sym q
  header_one (Some bytes) (Ok (OfImage g)) (Ok (OfImage h)) p q =
      let same = (definite.one (front bytes) p.1.0 q.1.0 (ImageHead p.0) (ImageHead q.0) p.1.1 q.1.1).0 in
      ap (λ (z : Grid). Ok (OfImage z)) p.2 ∙ ap (λ z. Ok (image_or_mesh z)) same ∙ sym (ap (λ (z : Grid). Ok (OfImage z)) q.2)
  header_one (Some bytes) (Ok (OfImage g)) (Ok OfMesh) p q =
      let same = (definite.one (front bytes) p.1.0 q.1.0 (ImageHead p.0) (MeshHead q.0) p.1.1 q.1.1).0 in
      let bad : ⊥ = cc in absurd bad
  header_one (Some bytes) (Ok OfMesh) (Ok (OfImage h)) p q =
      let same = (definite.one (front bytes) p.1.0 q.1.0 (MeshHead p.0) (ImageHead q.0) p.1.1 q.1.1).0 in
      let bad : ⊥ = cc in absurd bad
  header_one (Some bytes) (Ok OfMesh) (Ok OfMesh) p q = refl
  header_one (Some bytes) (Ok (OfImage g)) (Err cause) p q = absurd (definite.not_both (front bytes) p.1.0 (ImageHead p.0) q.0 p.1.1 q.1)
  header_one (Some bytes) (Ok OfMesh) (Err cause) p q = absurd (definite.not_both (front bytes) p.1.0 (MeshHead p.0) q.0 p.1.1 q.1)
  header_one (Some bytes) (Err cause) (Ok (OfImage h)) p q = absurd (definite.not_both (front bytes) q.1.0 (ImageHead q.0) p.0 q.1.1 p.1)
  header_one (Some bytes) (Err cause) (Ok OfMesh) p q = absurd (definite.not_both (front bytes) q.1.0 (MeshHead q.0) p.0 q.1.1 p.1)
  header_one (Some bytes) (Err c) (Err d) p q =
      let same = definite.one_fault (front bytes) p.0 q.0 p.1 q.1 in
      ap (λ (z : Cause). Err z) p.2 ∙ ap (λ (f : FileFault). Err (BadFile f)) same ∙ sym (ap (λ (z : Cause). Err z) q.2)

  informed_one : (s : Settings) (file : Option (List ℕ)) (inputs : Inputs Information) (a b : Result Information Cause) → IsInformed s file inputs a → IsInformed s file inputs b → a ≡ b
  informed_one (settings.File array unit) file inputs a b p q = header_one file a b p q
  informed_one (settings.Crop x0 x1 y0 y1 z0 z1) file inputs a b p q = p ∙ sym q
  informed_one (settings.Sample x y z) file inputs a b p q = p ∙ sym q
  informed_one (settings.Threshold lo hi) file inputs a b p q = p ∙ sym q
  informed_one (settings.Smooth radius) file inputs a b p q = p ∙ sym q
  informed_one (settings.Arith op) file inputs a b p q = p ∙ sym q
  informed_one settings.Tets file inputs a b p q = p ∙ sym q
  informed_one (settings.Select lo hi all) file inputs a b p q = p ∙ sym q
  informed_one (settings.Contour count levels) file inputs a b p q = p ∙ sym q
  informed_one (settings.Cut x y z r) file inputs a b p q = p ∙ sym q
  informed_one settings.Append file inputs a b p q = p ∙ sym q
  informed_one settings.Boundary file inputs a b p q = p ∙ sym q
  informed_one settings.Merge file inputs a b p q = p ∙ sym q
  informed_one (settings.Writer binary digits version) file inputs a b p q = p ∙ sym q

  pub information_one : IsOne InformationRule
  information_one n inputs a b p q = informed_one n.settings n.file inputs a b p q

-- what a header says is the information of its file
pub header_given : (bytes : List ℕ) (info : Info) → IsInfo bytes info → IsHeaderOf (Some bytes) (Ok (information_in info))
header_given bytes (info.Image whole origin spacing) h =
    let grid : Bounds → Vector → Vector → Grid = grid_of in
    (h.0, h.1, ap (λ w. grid w (vector_of origin) (vector_of spacing)) (sym h.2.whole) ∙ ap (λ o. grid h.0.whole o (vector_of spacing)) (sym h.2.origin) ∙ ap (grid h.0.whole h.0.origin) (sym h.2.spacing))
header_given bytes info.Mesh h = h
