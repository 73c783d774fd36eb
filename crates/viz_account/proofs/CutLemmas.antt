-- The sheet of a plane cut of an image.
use Rattle.std.proofs.Common.{◌≡◌, ℕ, true, List, [], ◌∷◌, Option, None, Some, Ok, refl, sym, ap, subst, ◌∙◌}
use Rattle.std.specs.List.{All}
use Rattle.std.proofs.lemmas.List.Elements.{All-nil, All-cons}
use Rattle.viz_dataset.specs.Images.{ImageData}
use Rattle.viz_dataset.specs.declared.dataset.Dataset.{Dataset}
use Rattle.viz_dataset.specs.declared.dataset.Dataset.TheVariants.{Image, Mesh}
use Rattle.viz_fraction.specs.declared.forms.Form.{Form}
use Rattle.viz_fraction.specs.Forms.{plane_form}
use Rattle.viz_meaning.specs.Section.{sections_of}
use Rattle.viz_meaning.specs.Tetrahedra.{sheets_of}
use Rattle.viz_kinds.specs.declared.settings.Settings.{Settings}
use Rattle.viz_kinds.specs.declared.settings.Settings.TheVariants as settings
use Rattle.viz_network.specs.Cone.{Cone, Tree, none, empty, fed, cone_of}
use Rattle.viz_surface_law.specs.FormSections.{form_section, FormSectionsAreClosed}
use Rattle.viz_node_meaning.specs.Rules.{Inputs}
use Rattle.viz_node_meaning.specs.Data.{IsEvaluated}
use Rattle.viz_node_meaning.specs.Scratch.{IsScratchOf}
use Rattle.viz_node_meaning.specs.Laws.{ConesGiveOne}
use Rattle.viz_account.specs.Audited.{IsFedFirst}
use Rattle.viz_account.specs.SurfaceLaws.{is_cut, CutsImage, CutSurfacesAreClosed}
use Rattle.viz_account.proofs.GivenLemmas.{scratch_fed}
use Rattle.viz_account.proofs.ContourLemmas.{ClosedIn}

-- a plane cut makes the section of what its port is fed with
section_made : (s : Settings) (file : Option (List ℕ)) (e : Dataset) (rest : Inputs Dataset) (d : Dataset) → is_cut s ≡ true
    → IsEvaluated s file (Some e ∷ rest) (Ok d) → (form : Form) × (d ≡ Mesh (sections_of (form ∷ []) (sheets_of e)))
section_made (settings.Cut x y z r) file e rest d is p = (plane_form x y z r, p.1)
section_made (settings.Contour count levels) file e rest d is p = let bad : ⊥ = cc in absurd bad
section_made (settings.File array unit) file e rest d is p = let bad : ⊥ = cc in absurd bad
section_made (settings.Crop x0 x1 y0 y1 z0 z1) file e rest d is p = let bad : ⊥ = cc in absurd bad
section_made (settings.Sample x y z) file e rest d is p = let bad : ⊥ = cc in absurd bad
section_made (settings.Threshold lo hi) file e rest d is p = let bad : ⊥ = cc in absurd bad
section_made (settings.Smooth radius) file e rest d is p = let bad : ⊥ = cc in absurd bad
section_made (settings.Arith op) file e rest d is p = let bad : ⊥ = cc in absurd bad
section_made settings.Tets file e rest d is p = let bad : ⊥ = cc in absurd bad
section_made (settings.Select lo hi all) file e rest d is p = let bad : ⊥ = cc in absurd bad
section_made settings.Append file e rest d is p = let bad : ⊥ = cc in absurd bad
section_made settings.Boundary file e rest d is p = let bad : ⊥ = cc in absurd bad
section_made settings.Merge file e rest d is p = let bad : ⊥ = cc in absurd bad
section_made (settings.Writer binary digits version) file e rest d is p = let bad : ⊥ = cc in absurd bad

module _ (cones : ConesGiveOne) where
  cut_made : (t : Tree) (image : ImageData) (d : Dataset) → is_cut t.0.settings ≡ true → (ports : Cone) → t.1 ≡ ports → IsFedFirst ports (Image image)
      → IsScratchOf (Some (t.0, ports)) (Ok d) → (form : Form) × (d ≡ Mesh (form_section form image ∷ []))
  cut_made t image d is none at stands given = absurd stands
  cut_made t image d is (empty others) at stands given = absurd stands
  cut_made t image d is (fed n own others) at stands given =
      let made = scratch_fed t.0 n own others d given in
      let same : made.0 ≡ Image image =
      (let one = cones (Some (n, own)) (Ok made.0) (Ok (Image image)) made.2 stands in let e : made.0 ≡ Image image = cc in e) in
      let section = section_made t.0.settings t.0.file made.0 made.1 d is made.3 in
      (section.0, section.1 ∙ ap (λ e. Mesh (sections_of (section.0 ∷ []) (sheets_of e))) same)

  cut_given : (o : Option Tree) (image : ImageData) (d : Dataset) → CutsImage o image → IsScratchOf o (Ok d)
      → (form : Form) × (d ≡ Mesh (form_section form image ∷ []))
  cut_given None image d cuts given = absurd cuts
  cut_given (Some t) image d cuts given = cut_made t image d cuts.0 t.1 refl cuts.1 given

  pub cuts_are_closed : FormSectionsAreClosed → CutSurfacesAreClosed
  cuts_are_closed law net id image sheets cuts given =
      let made = cut_given (cone_of net id) image (Mesh sheets) cuts given in
      let one : sheets ≡ form_section made.0 image ∷ [] = (let same = made.1 in let e : sheets ≡ form_section made.0 image ∷ [] = cc in e) in
      subst (All (ClosedIn image)) (sym one) (All-cons (ClosedIn image) (form_section made.0 image) [] (law made.0 image) (All-nil (ClosedIn image)))
