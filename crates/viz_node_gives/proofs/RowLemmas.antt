-- What each kind of node makes of valid datasets at its ports, where its information is told.
use Rattle.std.proofs.Common.{
  ◌≡◌,
  ℕ,
  List,
  Option,
  None,
  Some,
  Result,
  Ok,
  Err,
  refl,
  sym,
  ◌∙◌,
}
use Rattle.std.specs.Option.{option_map}
use Rattle.viz_dataset.specs.declared.dataset.Dataset.{Dataset}
use Rattle.viz_dataset.specs.declared.dataset.Dataset.TheVariants.{Mesh}
use Rattle.viz_fraction.specs.declared.forms.Form.{Form}
use Rattle.viz_kinds.specs.declared.settings.Settings.{Settings}
use Rattle.viz_kinds.specs.declared.settings.Settings.TheVariants as settings
use Rattle.viz_meaning.specs.Section.{sections_of}
use Rattle.viz_meaning.specs.Tetrahedra.{sheets_of}
use Rattle.viz_network.specs.declared.fault.Cause.{Cause}
use Rattle.viz_node_division.specs.Exact.{IsExact, IsExactSectionOf}
use Rattle.viz_node_meaning.specs.Data.{
  IsFiltered,
  IsMadeWith,
  all_information,
  contour_forms,
  cut_forms,
}
use Rattle.viz_node_meaning.specs.Information.{
  IsInformed,
  and_then,
  either_in,
  fed_at,
  filter_information,
  information_of,
}
use Rattle.viz_node_meaning.specs.Rules.{Inputs}
use Rattle.viz_node_meaning.specs.declared.information.Information.{Information}
use Rattle.viz_node_meaning.specs.declared.information.Information.TheVariants.{OfMesh}
use Rattle.viz_node_total.proofs.KindLemmas.{
  IsValidAt,
  MakesWhereTold,
  append_made,
  arith_made,
  at_first,
  boundary_made,
  crop_made,
  merge_made,
  sample_made,
  select_made,
  smooth_made,
  tets_made,
  threshold_made,
  writer_made,
}
use Rattle.viz_node_gives.specs.Gives.{HasReading}

-- a dataset of which this holds
abbrev Made : (Result Dataset Cause → Type 0) → Type 0
Made P = (d : Dataset) × P (Ok d)

section_made : (forms : List Form) (o : Option Dataset) (i : Information)
    → and_then (either_in 1 (option_map information_of o)) (λ i. Ok OfMesh) ≡ Ok i
    → Made (IsExactSectionOf forms o)
section_made forms None i e = let bad : ⊥ = cc in absurd bad
section_made forms (Some d) i e = (Mesh (sections_of forms (sheets_of d)), refl)

-- what is made where the information at the ports is taken
made_with : (r : Result Information Cause) (P : Result Dataset Cause → Type 0) (i : Information)
    → Ok i ≡ r → Made P → Made (IsMadeWith r P)
made_with (Ok j) P i e m = m
made_with (Err cause) P i e m = let bad : ⊥ = cc in absurd bad

-- what a filter makes
filtered : (s : Settings) (inputs : Inputs Dataset) (i : Information)
    → IsValidAt (fed_at 1 inputs) → Ok i ≡ filter_information s (all_information inputs)
    → MakesWhereTold s inputs
    → Made (IsMadeWith (filter_information s (all_information inputs)) (IsFiltered s inputs))
filtered s inputs i valid e make =
    let m = make i valid (sym e) in
    made_with (filter_information s (all_information inputs)) (IsFiltered s inputs) i e
    (m.0, m.1)

-- what a filter of sections makes
sectioned : (s : Settings) (forms : List Form) (inputs : Inputs Dataset) (i : Information)
    → Ok i ≡ filter_information s (all_information inputs)
    → filter_information s (all_information inputs)
    ≡ and_then (either_in 1 (fed_at 1 (all_information inputs))) (λ i. Ok OfMesh)
    → Made (IsMadeWith (filter_information s (all_information inputs))
    (IsExactSectionOf forms (fed_at 1 inputs)))
sectioned s forms inputs i e is =
    made_with (filter_information s (all_information inputs))
    (IsExactSectionOf forms (fed_at 1 inputs)) i e
    (section_made forms (fed_at 1 inputs) i
    (at_first (λ o. and_then (either_in 1 o) (λ i. Ok OfMesh)) inputs i (sym (e ∙ is))))

-- what a node makes, which is told the information, and whose file is read
pub row_made : (s : Settings) (file : Option (List ℕ)) (inputs : Inputs Dataset)
    (i : Information)
    → IsValidAt (fed_at 1 inputs) → HasReading s file
    → IsInformed s file (all_information inputs) (Ok i) → Made (IsExact s file inputs)
row_made (settings.File array unit) file inputs i valid h told = (h.0, h.1)
row_made (settings.Crop x0 x1 y0 y1 z0 z1) file inputs i valid h told =
    filtered (settings.Crop x0 x1 y0 y1 z0 z1) inputs i valid told
    (crop_made x0 x1 y0 y1 z0 z1 inputs)
row_made (settings.Sample x y z) file inputs i valid h told =
    filtered (settings.Sample x y z) inputs i valid told (sample_made x y z inputs)
row_made (settings.Threshold lo hi) file inputs i valid h told =
    filtered (settings.Threshold lo hi) inputs i valid told (threshold_made lo hi inputs)
row_made (settings.Smooth radius) file inputs i valid h told =
    filtered (settings.Smooth radius) inputs i valid told (smooth_made radius inputs)
row_made (settings.Arith op) file inputs i valid h told =
    filtered (settings.Arith op) inputs i valid told (arith_made op inputs)
row_made settings.Tets file inputs i valid h told =
    filtered settings.Tets inputs i valid told (tets_made inputs)
row_made (settings.Select lo hi all) file inputs i valid h told =
    filtered (settings.Select lo hi all) inputs i valid told (select_made lo hi all inputs)
row_made (settings.Contour count levels) file inputs i valid h told =
    sectioned (settings.Contour count levels) (contour_forms count levels) inputs i told refl
row_made (settings.Cut a b c r) file inputs i valid h told =
    sectioned (settings.Cut a b c r) (cut_forms a b c r) inputs i told refl
row_made settings.Append file inputs i valid h told =
    filtered settings.Append inputs i valid told (append_made inputs)
row_made settings.Boundary file inputs i valid h told =
    filtered settings.Boundary inputs i valid told (boundary_made inputs)
row_made settings.Merge file inputs i valid h told =
    filtered settings.Merge inputs i valid told (merge_made inputs)
row_made (settings.Writer binary digits version) file inputs i valid h told =
    filtered (settings.Writer binary digits version) inputs i valid told
    (writer_made binary digits version inputs)
