-- What nodes give is by names of one level and fits, row by row, and along the cone.
use Rattle.std.proofs.Common.{◌≡◌, ℕ, List, [], ◌∷◌, Option, None, Some, Ok, sym, ap, subst, ◌∙◌}
use Rattle.std.specs.List.{All}
use Rattle.std.proofs.lemmas.List.Elements.{All-append, All-nil, All-weaker}
use Rattle.viz_base.specs.declared.node.Pick.{Pick}
use Rattle.viz_dataset.specs.Images.{ImageData}
use Rattle.viz_dataset.specs.declared.dataset.Dataset.{Dataset}
use Rattle.viz_dataset.specs.declared.dataset.Dataset.TheVariants.{Image, Mesh}
use Rattle.viz_fraction.specs.declared.forms.Form.{Form}
use Rattle.viz_kinds.specs.declared.settings.Settings.{Settings}
use Rattle.viz_kinds.specs.declared.settings.Settings.TheVariants as settings
use Rattle.viz_legacy_read.specs.Reading.{Reads}
use Rattle.viz_meaning.specs.ImageFilters.{crop_of, sample_of, threshold_of, smooth_of, arith_of}
use Rattle.viz_meaning.specs.Section.{sections_of}
use Rattle.viz_meaning.specs.Tetrahedra.{sheets_of}
use Rattle.viz_meaning.specs.WholeImages.{WholeImage}
use Rattle.viz_mesh_meaning.specs.Append.{appended}
use Rattle.viz_mesh_meaning.specs.Facets.{boundaries}
use Rattle.viz_mesh_meaning.specs.Select.{selections}
use Rattle.viz_network.specs.Cone.{Tree}
use Rattle.viz_network.specs.declared.node.Node.{Node}
use Rattle.viz_node_division.specs.Divided.{Divided, DividedRule, IsDivided, wholes}
use Rattle.viz_node_division.specs.Exact.{IsExact, IsExactSectionOf}
use Rattle.viz_node_division.proofs.DividedLemmas.{shared_as}
use Rattle.viz_node_division.proofs.FoldLemmas.{OfAll, value_has}
use Rattle.viz_node_division.proofs.RowLemmas.{
  IsOk,
  first_whole,
  of_either,
  of_image,
  of_mesh,
  row_made,
  sections_made,
  whole_at,
}
use Rattle.viz_node_meaning.specs.Data.{
  AreTetrahedra,
  IsOfMesh,
  IsOfOne,
  IsOfTwo,
  IsReadingOf,
  contour_forms,
  cut_forms,
  merge_of,
  meshes_in,
  op_with,
  radius_with,
  unit_with,
}
use Rattle.viz_node_meaning.specs.Information.{box_with, fed_at, rate_with}
use Rattle.viz_node_meaning.specs.Rules.{Inputs}
use Rattle.viz_parts.specs.Pieces.{Division}
use Rattle.viz_sheet.specs.Sheet.{IsFit, SheetData}
use Rattle.viz_piece_divisions.specs.Pieces.{HasLevel}
use Rattle.viz_given.specs.Given.{AllAreFit, AllAreLeveled}
use Rattle.viz_given.proofs.SheetLemmas.{
  AreLeveled,
  BoundariesAreLeveled,
  IsLeveled,
  MergesAreLeveled,
  SectionsAreLeveled,
  SelectionsAreLeveled,
  TetrahedraAreLeveled,
  one_sheet,
}

-- ---- what is carried along the cone

abbrev pub IsLeveledGiven : Divided → Type 0
IsLeveledGiven d = AreLeveled d.whole

abbrev PortLeveled : Option Divided → Type 0
PortLeveled None = Unit {0}
PortLeveled (Some d) = AreLeveled d.whole

first_leveled : (inputs : Inputs Divided) → OfAll IsLeveledGiven inputs
    → PortLeveled (fed_at 1 inputs)
first_leveled [] h = tt
first_leveled (None ∷ inputs) h = tt
first_leveled (Some d ∷ inputs) h = h.0

-- what a file is read as
abbrev pub ReadsAreLeveled : Type 0
ReadsAreLeveled =
    (bytes : List ℕ) (pick : Pick) (unit : ℕ) (d : Dataset) → Reads bytes pick unit d
    → AreLeveled d

-- ---- rows of meshes

module _ (make : List SheetData → List SheetData) (keeps : (sheets : List SheetData)
    → All IsLeveled sheets → All IsLeveled (make sheets)) where
  made_leveled : (d w : Dataset) → AreLeveled d → Mesh (make (sheets_of d)) ≡ w → AreLeveled w
  made_leveled d w h e = subst AreLeveled e (keeps (sheets_of d) h)

  mesh_port : (port : Option Divided) (w : Dataset) → PortLeveled port
      → IsOfMesh make (whole_at port) (Ok w) → AreLeveled w
  mesh_port None w h m = absurd m
  mesh_port (Some d) w h m = made_leveled d.whole w h (of_mesh make d.whole w m)

  mesh_row : (inputs : Inputs Divided) (w : Dataset) → OfAll IsLeveledGiven inputs
      → IsOfMesh make (fed_at 1 (wholes inputs)) (Ok w) → AreLeveled w
  mesh_row inputs w h m =
      mesh_port (fed_at 1 inputs) w (first_leveled inputs h)
      (subst (λ o. IsOfMesh make o (Ok w)) (first_whole inputs) m)

module _ (forms : List Form) (keeps : (sheets : List SheetData) → All IsLeveled sheets
    → All IsLeveled (sections_of forms sheets)) where
  section_port : (port : Option Divided) (w : Dataset) → PortLeveled port
      → IsExactSectionOf forms (whole_at port) (Ok w) → AreLeveled w
  section_port None w h m = absurd m
  section_port (Some d) w h m =
      made_leveled (sections_of forms) keeps d.whole w h (of_either forms d.whole w m)

  section_row : (inputs : Inputs Divided) (w : Dataset) → OfAll IsLeveledGiven inputs
      → IsExactSectionOf forms (fed_at 1 (wholes inputs)) (Ok w) → AreLeveled w
  section_row inputs w h m =
      section_port (fed_at 1 inputs) w (first_leveled inputs h)
      (subst (λ o. IsExactSectionOf forms o (Ok w)) (first_whole inputs) m)

tets_port : (port : Option Divided) (w : Dataset) → PortLeveled port
    → AreTetrahedra (whole_at port) (Ok w) → AreLeveled w
tets_port None w h m = absurd m
tets_port (Some d) w h m = subst AreLeveled (of_image d.whole w m) h

tets_row : (inputs : Inputs Divided) (w : Dataset) → OfAll IsLeveledGiven inputs
    → AreTetrahedra (fed_at 1 (wholes inputs)) (Ok w) → AreLeveled w
tets_row inputs w h m =
    tets_port (fed_at 1 inputs) w (first_leveled inputs h)
    (subst (λ o. AreTetrahedra o (Ok w)) (first_whole inputs) m)

writer_port : (port : Option Divided) (w : Dataset) → PortLeveled port → whole_at port ≡ Some w
    → AreLeveled w
writer_port None w h e = let bad : ⊥ = cc in absurd bad
writer_port (Some d) w h e = let same : d.whole ≡ w = cc in subst AreLeveled same h

writer_row : (inputs : Inputs Divided) (w d : Dataset) → OfAll IsLeveledGiven inputs
    → fed_at 1 (wholes inputs) ≡ Some d → IsOk (Ok w) d → AreLeveled w
writer_row inputs w d h e m =
    let same : d ≡ w = cc in
    writer_port (fed_at 1 inputs) w (first_leveled inputs h)
    (sym (first_whole inputs) ∙ e ∙ ap (λ z. Some z) same)

one_in_front : (w : Dataset) (inputs : Inputs Divided) → AreLeveled w
    → All IsLeveled (appended (meshes_in (wholes inputs)))
    → All IsLeveled (appended (meshes_in (Some w ∷ wholes inputs)))
one_in_front (Image i) inputs h rest = rest
one_in_front (Mesh sheets) inputs h rest =
    All-append IsLeveled sheets (appended (meshes_in (wholes inputs))) h rest

joined_leveled : (inputs : Inputs Divided) → OfAll IsLeveledGiven inputs
    → All IsLeveled (appended (meshes_in (wholes inputs)))
joined_leveled [] h = All-nil IsLeveled
joined_leveled (None ∷ inputs) h = joined_leveled inputs h
joined_leveled (Some d ∷ inputs) h = one_in_front d.whole inputs h.0 (joined_leveled inputs h.1)

append_row : (inputs : Inputs Divided) (w : Dataset) → OfAll IsLeveledGiven inputs
    → IsOk (Ok w) (Mesh (appended (meshes_in (wholes inputs)))) → AreLeveled w
append_row inputs w h m =
    let same : Mesh (appended (meshes_in (wholes inputs))) ≡ w = cc in
    subst AreLeveled same (joined_leveled inputs h)

-- ---- rows of images

module _ (images : TetrahedraAreLeveled) where
  image_made : (w : Dataset) (image : ImageData) → IsOk (Ok w) (Image image) → AreLeveled w
  image_made w image m =
      let same : Image image ≡ w = cc in
      subst AreLeveled same (one_sheet _ (images image))

  one_row : (filter : WholeImage → WholeImage) (port : Option Dataset) (w : Dataset)
      → IsOfOne filter port (Ok w) → AreLeveled w
  one_row filter None w m = absurd m
  one_row filter (Some (Mesh sheets)) w m = absurd m
  one_row filter (Some (Image i)) w m = image_made w m.0 m.2

  two_row : (filter : WholeImage → WholeImage → WholeImage) (first second : Option Dataset)
      (w : Dataset) → IsOfTwo filter first second (Ok w) → AreLeveled w
  two_row filter None second w m = absurd m
  two_row filter (Some (Mesh sheets)) second w m = absurd m
  two_row filter (Some (Image i)) None w m = absurd m
  two_row filter (Some (Image i)) (Some (Mesh sheets)) w m = absurd m
  two_row filter (Some (Image i)) (Some (Image j)) w m = image_made w m.0 m.2

file_row : ReadsAreLeveled → (pick : Pick) (unit : ℕ) (file : Option (List ℕ)) (w : Dataset)
    → IsReadingOf pick unit file (Ok w) → AreLeveled w
file_row reads pick unit None w m = let bad : ⊥ = cc in absurd bad
file_row reads pick unit (Some bytes) w m = reads bytes pick unit w m

-- ---- all rows

module _ (images : TetrahedraAreLeveled) (reads : ReadsAreLeveled)
    (selection : SelectionsAreLeveled) (section : SectionsAreLeveled)
    (boundary : BoundariesAreLeveled) (merge : MergesAreLeveled) where
  row_leveled : (s : Settings) (file : Option (List ℕ)) (inputs : Inputs Divided) (w : Dataset)
      → OfAll IsLeveledGiven inputs → IsExact s file (wholes inputs) (Ok w) → AreLeveled w
  row_leveled (settings.File array unit) file inputs w h m =
      file_row reads array (unit_with unit) file w m
  row_leveled (settings.Crop x0 x1 y0 y1 z0 z1) file inputs w h m =
      one_row images (crop_of (box_with x0 x1 y0 y1 z0 z1)) (fed_at 1 (wholes inputs)) w
      (row_made (settings.Crop x0 x1 y0 y1 z0 z1) inputs w m)
  row_leveled (settings.Sample x y z) file inputs w h m =
      one_row images (sample_of (rate_with x y z)) (fed_at 1 (wholes inputs)) w
      (row_made (settings.Sample x y z) inputs w m)
  row_leveled (settings.Threshold lo hi) file inputs w h m =
      one_row images (threshold_of lo hi) (fed_at 1 (wholes inputs)) w
      (row_made (settings.Threshold lo hi) inputs w m)
  row_leveled (settings.Smooth radius) file inputs w h m =
      one_row images (smooth_of (radius_with radius)) (fed_at 1 (wholes inputs)) w
      (row_made (settings.Smooth radius) inputs w m)
  row_leveled (settings.Arith op) file inputs w h m =
      two_row images (arith_of (op_with op)) (fed_at 1 (wholes inputs)) (fed_at 2 (wholes inputs))
      w (row_made (settings.Arith op) inputs w m)
  row_leveled settings.Tets file inputs w h m =
      tets_row inputs w h (row_made settings.Tets inputs w m)
  row_leveled (settings.Select lo hi all) file inputs w h m =
      mesh_row (selections all lo hi) (selection all lo hi) inputs w h
      (row_made (settings.Select lo hi all) inputs w m)
  row_leveled (settings.Contour count levels) file inputs w h m =
      section_row (contour_forms count levels) (section (contour_forms count levels)) inputs w h
      (sections_made (settings.Contour count levels) (contour_forms count levels) inputs w m)
  row_leveled (settings.Cut a b c r) file inputs w h m =
      section_row (cut_forms a b c r) (section (cut_forms a b c r)) inputs w h
      (sections_made (settings.Cut a b c r) (cut_forms a b c r) inputs w m)
  row_leveled settings.Append file inputs w h m =
      append_row inputs w h (row_made settings.Append inputs w m)
  row_leveled settings.Boundary file inputs w h m =
      mesh_row boundaries boundary inputs w h (row_made settings.Boundary inputs w m)
  row_leveled settings.Merge file inputs w h m =
      mesh_row merge_of merge inputs w h (row_made settings.Merge inputs w m)
  row_leveled (settings.Writer binary digits version) file inputs w h m =
      let r = row_made (settings.Writer binary digits version) inputs w m in
      writer_row inputs w r.0 h r.1 r.2

  node_leveled : (n : Node) (inputs : Inputs Divided) (d : Divided) → OfAll IsLeveledGiven inputs
      → DividedRule n inputs (Ok d) → IsLeveledGiven d
  node_leveled n inputs d h m = row_leveled n.settings n.file inputs d.whole h m.exact

  all : (cone : Option Tree) (sheets : List SheetData) (division : Division)
      → IsDivided cone (Mesh sheets) division → All IsLeveled sheets
  all cone sheets division d =
      value_has DividedRule IsLeveledGiven node_leveled cone (shared_as (Mesh sheets) division)
      d.given

  pub all_leveled : AllAreLeveled
  all_leveled cone sheets division d =
      All-weaker IsLeveled HasLevel (λ s h. h.level) sheets (all cone sheets division d)

  pub all_fit : AllAreFit
  all_fit cone sheets division d =
      All-weaker IsLeveled IsFit (λ s h. h.fit) sheets (all cone sheets division d)
