-- The rules of a node always make something: information, and of valid datasets a valid one.
use Rattle.std.proofs.Common.{
  ◌≡◌,
  ℕ,
  inl,
  inr,
  List,
  [],
  ◌∷◌,
  Option,
  None,
  Some,
  Result,
  Ok,
  Err,
  refl,
}
use Rattle.std.specs.Option.{option_map}
use Rattle.viz_base.specs.declared.node.Pick.{Pick}
use Rattle.viz_dataset.specs.declared.dataset.Dataset.{Dataset}
use Rattle.viz_dataset.specs.declared.dataset.Dataset.TheVariants.{Mesh}
use Rattle.viz_fraction.specs.declared.forms.Form.{Form}
use Rattle.viz_kinds.specs.declared.settings.Settings.{Settings}
use Rattle.viz_kinds.specs.declared.settings.Settings.TheVariants as settings
use Rattle.viz_legacy_read.specs.File.{file}
use Rattle.viz_legacy_read.specs.Header.{Heading, header}
use Rattle.viz_legacy_read.specs.Header.Heading.{OfImage as ImageHead, OfMesh as MeshHead}
use Rattle.viz_legacy_read.specs.Reading.{Reads, front}
use Rattle.viz_lex.specs.Reading.{Reading}
use Rattle.viz_lex.specs.Rules.{IsDefinite}
use Rattle.viz_meaning.specs.Tetrahedra.{sheets_of}
use Rattle.viz_network.specs.declared.fault.Cause.{Cause}
use Rattle.viz_network.specs.declared.fault.Cause.TheVariants.{BadFile, NoFile, TooWide}
use Rattle.viz_node_meaning.specs.Data.{
  DataRule,
  IsEvaluated,
  IsFiltered,
  IsMadeWith,
  IsReadingOf,
  IsSectionOf,
  all_information,
  contour_forms,
  cut_forms,
  unit_with,
}
use Rattle.viz_node_meaning.specs.Information.{
  InformationRule,
  IsHeaderOf,
  IsInformed,
  and_then,
  either_in,
  fed_at,
  filter_information,
  grid_of,
  information_of,
}
use Rattle.viz_node_meaning.specs.Rules.{Inputs}
use Rattle.viz_node_meaning.specs.declared.information.Information.{Information}
use Rattle.viz_node_meaning.specs.declared.information.Information.TheVariants.{OfImage, OfMesh}
use Rattle.viz_node_total.specs.Files.{HasBytes, IsOfBytes, IsValid}
use Rattle.viz_node_total.proofs.FileLemmas.{file_valid}
use Rattle.viz_node_total.proofs.FoldLemmas.{AlwaysMakes, OfAll, OfValue}
use Rattle.viz_node_total.proofs.KindLemmas.{
  IsValidAt,
  Made,
  MakesWhereTold,
  append_made,
  arith_made,
  at_first,
  boundary_made,
  crop_made,
  merge_made,
  sample_made,
  select_made,
  smooth_made,
  tets_made,
  threshold_made,
  writer_made,
}
use Rattle.viz_node_total.proofs.NarrowLemmas.{section_some, sections_decided}

-- ---- information

-- nothing is asked of information, nor of nodes
abbrev pub Anything : {X : Type 0} → X → Type 0
Anything x = Unit {0}

-- something of which this holds, and what it gives has the property
abbrev Some_of : {X : Type 0} → (X → Type 0) → (Result X Cause → Type 0) → Type 0
Some_of {X} P rule = (r : Result X Cause) × rule r × OfValue P r

headed : (bytes : List ℕ) (h : Heading) (next : Reading) → header.is (front bytes) next h
    → Some_of Anything (IsHeaderOf (Some bytes))
headed bytes (ImageHead h) next is =
    (Ok (OfImage (grid_of h.whole h.origin h.spacing)), (h, (next, is), refl), tt)
headed bytes (MeshHead p) next is = (Ok OfMesh, (p, (next, is)), tt)

header_some : IsDefinite header → (file : Option (List ℕ)) → Some_of Anything (IsHeaderOf file)
header_some definite None = (Err NoFile, refl, tt)
header_some definite (Some bytes) = elim (definite.some (front bytes)) [
  | inl found ↦ headed bytes found.0 found.1 found.2
  | inr fault ↦ (Err (BadFile fault.0), (fault.0, fault.1, refl), tt)
]

-- what is computed
told : (r : Result Information Cause) → Some_of Anything (λ a. a ≡ r)
told (Ok i) = (Ok i, refl, tt)
told (Err cause) = (Err cause, refl, tt)

informed : IsDefinite header → (s : Settings) (file : Option (List ℕ)) (inputs : Inputs Information)
    → Some_of Anything (IsInformed s file inputs)
informed definite (settings.File array unit) file inputs = header_some definite file
informed definite (settings.Crop x0 x1 y0 y1 z0 z1) file inputs =
    told (filter_information (settings.Crop x0 x1 y0 y1 z0 z1) inputs)
informed definite (settings.Sample x y z) file inputs =
    told (filter_information (settings.Sample x y z) inputs)
informed definite (settings.Threshold lo hi) file inputs =
    told (filter_information (settings.Threshold lo hi) inputs)
informed definite (settings.Smooth radius) file inputs =
    told (filter_information (settings.Smooth radius) inputs)
informed definite (settings.Arith op) file inputs =
    told (filter_information (settings.Arith op) inputs)
informed definite settings.Tets file inputs = told (filter_information settings.Tets inputs)
informed definite (settings.Select lo hi all) file inputs =
    told (filter_information (settings.Select lo hi all) inputs)
informed definite (settings.Contour count levels) file inputs =
    told (filter_information (settings.Contour count levels) inputs)
informed definite (settings.Cut a b c r) file inputs =
    told (filter_information (settings.Cut a b c r) inputs)
informed definite settings.Append file inputs = told (filter_information settings.Append inputs)
informed definite settings.Boundary file inputs =
    told (filter_information settings.Boundary inputs)
informed definite settings.Merge file inputs = told (filter_information settings.Merge inputs)
informed definite (settings.Writer binary digits version) file inputs =
    told (filter_information (settings.Writer binary digits version) inputs)

pub information_made : IsDefinite header → AlwaysMakes Anything InformationRule Anything
information_made definite n inputs node h = informed definite n.settings n.file inputs

-- ---- datasets

reading_some : ((pick : Pick) (unit : ℕ) → IsDefinite (file pick unit)) → (pick : Pick) (unit : ℕ)
    (o : Option (List ℕ)) → IsOfBytes o → Some_of IsValid (IsReadingOf pick unit o)
reading_some definite pick unit None are = (Err NoFile, refl, tt)
reading_some definite pick unit (Some bytes) are =
    elim ((definite pick unit).some (front bytes)) [
      | inl found ↦
          let reads : Reads bytes pick unit found.0 = (found.1, found.2) in
          (Ok found.0, reads, file_valid pick unit bytes found.0 are reads)
      | inr fault ↦ (Err (BadFile fault.0), (fault.0, fault.1, refl), tt)
    ]

-- a filter makes something where its information is told, and else has the cause
with_some : (r : Result Information Cause) (P : Result Dataset Cause → Type 0)
    → ((i : Information) → r ≡ Ok i → Some_of IsValid P) → Some_of IsValid (IsMadeWith r P)
with_some (Ok i) P make = make i refl
with_some (Err cause) P make = (Err cause, refl, tt)

some_made : (P : Result Dataset Cause → Type 0) → Made P → Some_of IsValid P
some_made P m = (Ok m.0, m.1, m.2)

filtered : (s : Settings) (inputs : Inputs Dataset) → IsValidAt (fed_at 1 inputs)
    → MakesWhereTold s inputs
    → Some_of IsValid
    (IsMadeWith (filter_information s (all_information inputs)) (IsFiltered s inputs))
filtered s inputs valid make =
    with_some (filter_information s (all_information inputs)) (IsFiltered s inputs)
    (λ i e. some_made (IsFiltered s inputs) (make i valid e))

section_of_some : (forms : List Form) (o : Option Dataset) (i : Information)
    → and_then (either_in 1 (option_map information_of o)) (λ i. Ok OfMesh) ≡ Ok i
    → Some_of IsValid (IsSectionOf forms o)
section_of_some forms None i e = let bad : ⊥ = cc in absurd bad
section_of_some forms (Some d) i e =
    elim (section_some forms d (sections_decided forms (sheets_of d))) [
      | inl made ↦ (Ok (Mesh made.0), made.1, tt)
      | inr wide ↦ (Err TooWide, wide, tt)
    ]

-- what a filter of sections makes
sectioned : (forms : List Form) (inputs : Inputs Dataset)
    → Some_of IsValid
    (IsMadeWith (and_then (either_in 1 (fed_at 1 (all_information inputs))) (λ i. Ok OfMesh))
    (IsSectionOf forms (fed_at 1 inputs)))
sectioned forms inputs =
    with_some (and_then (either_in 1 (fed_at 1 (all_information inputs))) (λ i. Ok OfMesh))
    (IsSectionOf forms (fed_at 1 inputs))
    (λ i e. section_of_some forms (fed_at 1 inputs) i
    (at_first (λ o. and_then (either_in 1 o) (λ i. Ok OfMesh)) inputs i e))

evaluated : ((pick : Pick) (unit : ℕ) → IsDefinite (file pick unit)) → (s : Settings)
    (o : Option (List ℕ)) (inputs : Inputs Dataset)
    → IsOfBytes o → IsValidAt (fed_at 1 inputs) → Some_of IsValid (IsEvaluated s o inputs)
evaluated definite (settings.File array unit) o inputs are valid =
    reading_some definite array (unit_with unit) o are
evaluated definite (settings.Crop x0 x1 y0 y1 z0 z1) o inputs are valid =
    filtered (settings.Crop x0 x1 y0 y1 z0 z1) inputs valid (crop_made x0 x1 y0 y1 z0 z1 inputs)
evaluated definite (settings.Sample x y z) o inputs are valid =
    filtered (settings.Sample x y z) inputs valid (sample_made x y z inputs)
evaluated definite (settings.Threshold lo hi) o inputs are valid =
    filtered (settings.Threshold lo hi) inputs valid (threshold_made lo hi inputs)
evaluated definite (settings.Smooth radius) o inputs are valid =
    filtered (settings.Smooth radius) inputs valid (smooth_made radius inputs)
evaluated definite (settings.Arith op) o inputs are valid =
    filtered (settings.Arith op) inputs valid (arith_made op inputs)
evaluated definite settings.Tets o inputs are valid =
    filtered settings.Tets inputs valid (tets_made inputs)
evaluated definite (settings.Select lo hi all) o inputs are valid =
    filtered (settings.Select lo hi all) inputs valid (select_made lo hi all inputs)
evaluated definite (settings.Contour count levels) o inputs are valid =
    sectioned (contour_forms count levels) inputs
evaluated definite (settings.Cut a b c r) o inputs are valid =
    sectioned (cut_forms a b c r) inputs
evaluated definite settings.Append o inputs are valid =
    filtered settings.Append inputs valid (append_made inputs)
evaluated definite settings.Boundary o inputs are valid =
    filtered settings.Boundary inputs valid (boundary_made inputs)
evaluated definite settings.Merge o inputs are valid =
    filtered settings.Merge inputs valid (merge_made inputs)
evaluated definite (settings.Writer binary digits version) o inputs are valid =
    filtered (settings.Writer binary digits version) inputs valid
    (writer_made binary digits version inputs)

first_valid : (inputs : Inputs Dataset) → OfAll IsValid inputs → IsValidAt (fed_at 1 inputs)
first_valid [] h = tt
first_valid (None ∷ inputs) h = tt
first_valid (Some d ∷ inputs) h = h.0

pub data_made : ((pick : Pick) (unit : ℕ) → IsDefinite (file pick unit))
    → AlwaysMakes HasBytes DataRule IsValid
data_made definite n inputs node h =
    evaluated definite n.settings n.file inputs node (first_valid inputs h)
