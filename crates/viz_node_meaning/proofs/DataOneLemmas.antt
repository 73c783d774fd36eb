-- The data rule of a node has one result.
use Rattle.std.proofs.Common.{◌≡◌, ℕ, List, Option, None, Some, Result, Ok, Err, sym, ap, ◌∙◌}
use Rattle.viz_base.specs.declared.node.Pick.{Pick}
use Rattle.viz_lex.specs.Rules.{IsDefinite}
use Rattle.viz_lex.specs.declared.fault.FileFault.{FileFault}
use Rattle.viz_fraction.specs.declared.forms.Form.{Form}
use Rattle.viz_dataset.specs.Images.{ImageData}
use Rattle.viz_dataset.specs.declared.dataset.Dataset.{Dataset}
use Rattle.viz_dataset.specs.declared.dataset.Dataset.TheVariants.{Image, Mesh}
use Rattle.viz_image_ops.specs.Determined.{PartIsDetermined}
use Rattle.viz_legacy_read.specs.File.{file}
use Rattle.viz_legacy_read.specs.Reading.{front}
use Rattle.viz_kinds.specs.declared.settings.Settings.{Settings}
use Rattle.viz_kinds.specs.declared.settings.Settings.TheVariants as settings
use Rattle.viz_meaning.specs.WholeImages.{WholeImage, whole_of}
use Rattle.viz_network.specs.declared.fault.Cause.{Cause}
use Rattle.viz_network.specs.declared.fault.Cause.TheVariants.{BadFile}
use Rattle.viz_node_meaning.specs.declared.information.Information.{Information}
use Rattle.viz_node_meaning.specs.Rules.{Inputs}
use Rattle.viz_mesh_meaning.specs.Facets.{boundaries}
use Rattle.viz_mesh_meaning.specs.Select.{selections}
use Rattle.viz_sheet.specs.Sheet.{SheetData}
use Rattle.viz_meaning.specs.ImageFilters.{crop_of, sample_of, threshold_of, smooth_of, arith_of}
use Rattle.viz_node_meaning.specs.Information.{fed_at, filter_information, box_with, rate_with}
use Rattle.viz_node_meaning.specs.Data.{contour_forms, cut_forms, merge_of, op_with, radius_with, unit_with, IsReadingOf, IsWhole, IsOfOne, IsOfTwo, IsOfMesh, AreTetrahedra, IsSection, IsSectionOf, IsFiltered, IsMadeWith, IsEvaluated, DataRule, all_information}
use Rattle.viz_node_meaning.specs.Rules.{IsOne}

-- a relation has at most one result
abbrev pub AtMostOne : (Result Dataset Cause → Type 0) → Type 0
AtMostOne P = (a b : Result Dataset Cause) → P a → P b → a ≡ b

reading_one : ((pick : Pick) (unit : ℕ) → IsDefinite (file pick unit)) → (array : Pick) (unit : ℕ) (bytes : Option (List ℕ)) → AtMostOne (IsReadingOf array unit bytes)
reading_one definite array unit None a b p q = p ∙ sym q
reading_one definite array unit (Some bytes) (Ok d) (Ok e) p q =
    ap (λ z. Ok z) ((definite array unit).one (front bytes) p.0 q.0 d e p.1 q.1).0
reading_one definite array unit (Some bytes) (Ok d) (Err cause) p q = absurd ((definite array unit).not_both (front bytes) p.0 d q.0 p.1 q.1)
reading_one definite array unit (Some bytes) (Err cause) (Ok e) p q = absurd ((definite array unit).not_both (front bytes) q.0 e p.0 q.1 p.1)
reading_one definite array unit (Some bytes) (Err c) (Err d) p q =
    let same = (definite array unit).one_fault (front bytes) p.0 q.0 p.1 q.1 in
    ap (λ (z : Cause). Err z) p.2 ∙ ap (λ (f : FileFault). Err (BadFile f)) same ∙ sym (ap (λ (z : Cause). Err z) q.2)

module _ (determined : PartIsDetermined) where
  whole_one : (w : WholeImage) → AtMostOne (IsWhole w)
  whole_one w a b p q = p.2 ∙ ap (λ (i : ImageData). Ok (Image i)) (determined w w.extent p.0 q.0 p.1 q.1) ∙ sym q.2

  of_one : (filter : WholeImage → WholeImage) (d : Option Dataset) → AtMostOne (IsOfOne filter d)
  of_one filter None a b p q = absurd p
  of_one filter (Some (Mesh sheets)) a b p q = absurd p
  of_one filter (Some (Image i)) a b p q = whole_one (filter (whole_of i)) a b p q

  of_two : (filter : WholeImage → WholeImage → WholeImage) (d e : Option Dataset) → AtMostOne (IsOfTwo filter d e)
  of_two filter None e a b p q = absurd p
  of_two filter (Some (Mesh sheets)) e a b p q = absurd p
  of_two filter (Some (Image i)) None a b p q = absurd p
  of_two filter (Some (Image i)) (Some (Mesh sheets)) a b p q = absurd p
  of_two filter (Some (Image i)) (Some (Image j)) a b p q = whole_one (filter (whole_of i) (whole_of j)) a b p q

  section_one : (forms : List Form) (d : Dataset) → AtMostOne (IsSection forms d)
  section_one forms d (Ok x) (Ok y) p q = ap (λ z. Ok z) (p.1 ∙ sym q.1)
  section_one forms d (Ok x) (Err cause) p q = absurd (q.0 p.0)
  section_one forms d (Err cause) (Ok y) p q = absurd (p.0 q.0)
  section_one forms d (Err c) (Err e) p q = ap (λ (z : Cause). Err z) (p.1 ∙ sym q.1)

  section_of_one : (forms : List Form) (d : Option Dataset) → AtMostOne (IsSectionOf forms d)
  section_of_one forms None a b p q = absurd p
  section_of_one forms (Some d) a b p q = section_one forms d a b p q

  tetrahedra_one : (d : Option Dataset) → AtMostOne (AreTetrahedra d)
  tetrahedra_one None a b p q = absurd p
  tetrahedra_one (Some (Mesh sheets)) a b p q = absurd p
  tetrahedra_one (Some (Image i)) a b p q = p ∙ sym q

  of_mesh : (filter : List SheetData → List SheetData) (d : Option Dataset) → AtMostOne (IsOfMesh filter d)
  of_mesh filter None a b p q = absurd p
  of_mesh filter (Some (Image i)) a b p q = absurd p
  of_mesh filter (Some (Mesh sheets)) a b p q = p ∙ sym q

  filtered_one : (s : Settings) (inputs : Inputs Dataset) → AtMostOne (IsFiltered s inputs)
  filtered_one (settings.File array unit) inputs a b p q = absurd p
  filtered_one (settings.Crop x0 x1 y0 y1 z0 z1) inputs a b p q = of_one (crop_of (box_with x0 x1 y0 y1 z0 z1)) (fed_at 1 inputs) a b p q
  filtered_one (settings.Sample x y z) inputs a b p q = of_one (sample_of (rate_with x y z)) (fed_at 1 inputs) a b p q
  filtered_one (settings.Threshold lo hi) inputs a b p q = of_one (threshold_of lo hi) (fed_at 1 inputs) a b p q
  filtered_one (settings.Smooth radius) inputs a b p q = of_one (smooth_of (radius_with radius)) (fed_at 1 inputs) a b p q
  filtered_one (settings.Arith op) inputs a b p q = of_two (arith_of (op_with op)) (fed_at 1 inputs) (fed_at 2 inputs) a b p q
  filtered_one settings.Tets inputs a b p q = tetrahedra_one (fed_at 1 inputs) a b p q
  filtered_one (settings.Select lo hi all) inputs a b p q = of_mesh (selections all lo hi) (fed_at 1 inputs) a b p q
  filtered_one (settings.Contour count levels) inputs a b p q = section_of_one (contour_forms count levels) (fed_at 1 inputs) a b p q
  filtered_one (settings.Cut x y z r) inputs a b p q = section_of_one (cut_forms x y z r) (fed_at 1 inputs) a b p q
  filtered_one settings.Append inputs a b p q = p ∙ sym q
  filtered_one settings.Boundary inputs a b p q = of_mesh boundaries (fed_at 1 inputs) a b p q
  filtered_one settings.Merge inputs a b p q = of_mesh merge_of (fed_at 1 inputs) a b p q
  filtered_one (settings.Writer binary digits version) inputs a b p q =
      let some : Some p.0 ≡ Some q.0 = sym p.1 ∙ q.1 in
      let same : p.0 ≡ q.0 = cc in
      p.2 ∙ ap (λ z. Ok z) same ∙ sym q.2

  made_one : (i : Result Information Cause) (P : Result Dataset Cause → Type 0) → AtMostOne P → AtMostOne (IsMadeWith i P)
  made_one (Ok i) P one a b p q = one a b p q
  made_one (Err cause) P one a b p q = p ∙ sym q

  module _ (definite : (pick : Pick) (unit : ℕ) → IsDefinite (file pick unit)) where
    evaluated_one : (s : Settings) (bytes : Option (List ℕ)) (inputs : Inputs Dataset) → AtMostOne (IsEvaluated s bytes inputs)
    evaluated_one (settings.File array unit) bytes inputs a b p q = reading_one definite array (unit_with unit) bytes a b p q
    evaluated_one (settings.Crop x0 x1 y0 y1 z0 z1) bytes inputs a b p q = made_one (filter_information (settings.Crop x0 x1 y0 y1 z0 z1) (all_information inputs)) (IsFiltered (settings.Crop x0 x1 y0 y1 z0 z1) inputs) (filtered_one (settings.Crop x0 x1 y0 y1 z0 z1) inputs) a b p q
    evaluated_one (settings.Sample x y z) bytes inputs a b p q = made_one (filter_information (settings.Sample x y z) (all_information inputs)) (IsFiltered (settings.Sample x y z) inputs) (filtered_one (settings.Sample x y z) inputs) a b p q
    evaluated_one (settings.Threshold lo hi) bytes inputs a b p q = made_one (filter_information (settings.Threshold lo hi) (all_information inputs)) (IsFiltered (settings.Threshold lo hi) inputs) (filtered_one (settings.Threshold lo hi) inputs) a b p q
    evaluated_one (settings.Smooth radius) bytes inputs a b p q = made_one (filter_information (settings.Smooth radius) (all_information inputs)) (IsFiltered (settings.Smooth radius) inputs) (filtered_one (settings.Smooth radius) inputs) a b p q
    evaluated_one (settings.Arith op) bytes inputs a b p q = made_one (filter_information (settings.Arith op) (all_information inputs)) (IsFiltered (settings.Arith op) inputs) (filtered_one (settings.Arith op) inputs) a b p q
    evaluated_one settings.Tets bytes inputs a b p q = made_one (filter_information settings.Tets (all_information inputs)) (IsFiltered settings.Tets inputs) (filtered_one settings.Tets inputs) a b p q
    evaluated_one (settings.Select lo hi all) bytes inputs a b p q = made_one (filter_information (settings.Select lo hi all) (all_information inputs)) (IsFiltered (settings.Select lo hi all) inputs) (filtered_one (settings.Select lo hi all) inputs) a b p q
    evaluated_one (settings.Contour count levels) bytes inputs a b p q = made_one (filter_information (settings.Contour count levels) (all_information inputs)) (IsFiltered (settings.Contour count levels) inputs) (filtered_one (settings.Contour count levels) inputs) a b p q
    evaluated_one (settings.Cut x y z r) bytes inputs a b p q = made_one (filter_information (settings.Cut x y z r) (all_information inputs)) (IsFiltered (settings.Cut x y z r) inputs) (filtered_one (settings.Cut x y z r) inputs) a b p q
    evaluated_one settings.Append bytes inputs a b p q = made_one (filter_information settings.Append (all_information inputs)) (IsFiltered settings.Append inputs) (filtered_one settings.Append inputs) a b p q
    evaluated_one settings.Boundary bytes inputs a b p q = made_one (filter_information settings.Boundary (all_information inputs)) (IsFiltered settings.Boundary inputs) (filtered_one settings.Boundary inputs) a b p q
    evaluated_one settings.Merge bytes inputs a b p q = made_one (filter_information settings.Merge (all_information inputs)) (IsFiltered settings.Merge inputs) (filtered_one settings.Merge inputs) a b p q
    evaluated_one (settings.Writer binary digits version) bytes inputs a b p q = made_one (filter_information (settings.Writer binary digits version) (all_information inputs)) (IsFiltered (settings.Writer binary digits version) inputs) (filtered_one (settings.Writer binary digits version) inputs) a b p q

    pub data_one : IsOne DataRule
    data_one n inputs a b p q = evaluated_one n.settings n.file inputs a b p q
