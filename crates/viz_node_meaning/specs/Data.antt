-- What a node's dataset is, from the datasets at its ports (VTK User's Guide, "The visualization
-- pipeline": the data pass; docs/FORMATS-OF-FILTERS.md, "What a node gives").
use Rattle.std.specs.Prelude.{◌≡◌, ℕ, ℤ, List, [], ◌∷◌, map, take, min, Option, None, Some, Result}
use Rattle.std.specs.Prelude.{Ok, Err}
use Rattle.std.specs.Option.{option_map}
use Rattle.viz_base.specs.declared.node.Pick.{Pick}
use Rattle.viz_lex.specs.declared.fault.FileFault.{FileFault}
use Rattle.viz_fraction.specs.declared.forms.Form.{Form}
use Rattle.viz_fraction.specs.Forms.{contour_form, plane_form}
use Rattle.viz_dataset.specs.Images.{ImageData}
use Rattle.viz_dataset.specs.declared.dataset.Dataset.{Dataset}
use Rattle.viz_dataset.specs.declared.dataset.Dataset.TheVariants.{Image, Mesh}
use Rattle.viz_legacy_read.specs.Reading.{Reads, Stops}
use Rattle.viz_kinds.specs.declared.settings.Op as kinds
use Rattle.viz_kinds.specs.declared.settings.Op.TheVariants as from
use Rattle.viz_kinds.specs.declared.settings.Settings.{Settings}
use Rattle.viz_kinds.specs.declared.settings.Settings.TheVariants as settings
use Rattle.viz_meaning.specs.declared.op.Op.{Op}
use Rattle.viz_meaning.specs.declared.op.Op.TheVariants.{Add, Sub, Min, Max}
use Rattle.viz_meaning.specs.ImageFilters.{crop_of, sample_of, threshold_of, smooth_of, arith_of}
use Rattle.viz_meaning.specs.Narrow.{AreNarrowSections}
use Rattle.viz_meaning.specs.Section.{sections_of}
use Rattle.viz_meaning.specs.Tetrahedra.{sheets_of, tetrahedra_sheet}
use Rattle.viz_mesh_meaning.specs.Append.{appended}
use Rattle.viz_mesh_meaning.specs.Facets.{boundaries}
use Rattle.viz_mesh_meaning.specs.Merge.{merged}
use Rattle.viz_mesh_meaning.specs.Select.{selections}
use Rattle.viz_sheet.specs.Sheet.{SheetData}
use Rattle.viz_meaning.specs.WholeImages.{WholeImage, whole_of, IsOn}
use Rattle.viz_network.specs.declared.fault.Cause.{Cause}
use Rattle.viz_network.specs.declared.fault.Cause.TheVariants.{NoFile, BadFile, TooWide}
use Rattle.viz_node_meaning.specs.Rules.{Inputs, NodeRule}
use Rattle.viz_node_meaning.specs.declared.information.Information.{Information}
use Rattle.viz_node_meaning.specs.Information.{information_of, filter_information, fed_at}
use Rattle.viz_node_meaning.specs.Information.{rate_with, box_with, within}

-- ---- files

-- the decimals of a file's coordinates
abbrev pub unit_with : ℕ → ℕ
unit_with unit = within 0 9 unit

-- what a loaded file is read as, or its first fault
abbrev pub IsReadingOf : Pick → ℕ → Option (List ℕ) → Result Dataset Cause → Type 0
IsReadingOf array unit None r = r ≡ Err NoFile
IsReadingOf array unit (Some bytes) (Ok d) = Reads bytes array unit d
IsReadingOf array unit (Some bytes) (Err cause) = (fault : FileFault)
    × Stops bytes array unit fault × (cause ≡ BadFile fault)

-- ---- image filters

-- the image is the whole one
abbrev pub IsWhole : WholeImage → Result Dataset Cause → Type 0
IsWhole w r = (image : ImageData) × IsOn w w.extent image × (r ≡ Ok (Image image))

-- what a filter of images makes of the image at its port
abbrev pub IsOfOne : (WholeImage → WholeImage) → Option Dataset → Result Dataset Cause → Type 0
IsOfOne filter (Some (Image i)) r = IsWhole (filter (whole_of i)) r
IsOfOne filter _ r = ⊥

-- the same of two images
abbrev pub IsOfTwo : (WholeImage → WholeImage → WholeImage) → Option Dataset → Option Dataset
    → Result Dataset Cause → Type 0
IsOfTwo filter (Some (Image a)) (Some (Image b)) r = IsWhole (filter (whole_of a) (whole_of b)) r
IsOfTwo filter _ _ r = ⊥

-- what arith reckons
abbrev pub op_with : kinds.Op → Op
op_with from.Add = Add
op_with from.Sub = Sub
op_with from.Min = Min
op_with from.Max = Max

-- the radius of a mean
abbrev pub radius_with : ℕ → ℕ
radius_with radius = within 0 8 radius

-- ---- sections

-- the forms of levels
abbrev pub contour_forms : ℕ → List ℤ → List Form
contour_forms count levels = map contour_form (take (min count 8) levels)

-- the sections of a dataset by forms, or that a number of one is wide
abbrev pub IsSection : List Form → Dataset → Result Dataset Cause → Type 0
IsSection forms d (Ok made) = AreNarrowSections forms (sheets_of d)
    × (made ≡ Mesh (sections_of forms (sheets_of d)))
IsSection forms d (Err cause) = (AreNarrowSections forms (sheets_of d) → ⊥) × (cause ≡ TooWide)

-- the form of a plane, as the one of a list
abbrev pub cut_forms : ℤ → ℤ → ℤ → ℤ → List Form
cut_forms a b c r = plane_form a b c r ∷ []

-- the same of the dataset at a port
abbrev pub IsSectionOf : List Form → Option Dataset → Result Dataset Cause → Type 0
IsSectionOf forms None r = ⊥
IsSectionOf forms (Some d) r = IsSection forms d r

-- ---- meshes

-- the tetrahedra of the image at a port
abbrev pub AreTetrahedra : Option Dataset → Result Dataset Cause → Type 0
AreTetrahedra (Some (Image i)) r = r ≡ Ok (Mesh (tetrahedra_sheet i ∷ []))
AreTetrahedra _ r = ⊥

-- what a filter of meshes makes of the mesh at a port
abbrev pub IsOfMesh : (List SheetData → List SheetData) → Option Dataset → Result Dataset Cause
    → Type 0
IsOfMesh filter (Some (Mesh sheets)) r = r ≡ Ok (Mesh (filter sheets))
IsOfMesh filter _ r = ⊥

-- the merge of a mesh, which has one sheet
abbrev pub merge_of : List SheetData → List SheetData
merge_of sheets = merged sheets ∷ []

-- the meshes at the ports, ports ascending
abbrev pub meshes_in : Inputs Dataset → List (List SheetData)
meshes_in [] = []
meshes_in (Some (Mesh sheets) ∷ inputs) = sheets ∷ meshes_in inputs
meshes_in (_ ∷ inputs) = meshes_in inputs

-- ---- all kinds

-- what a filter makes of the datasets at its ports, which have what it takes
abbrev pub IsFiltered : Settings → Inputs Dataset → Result Dataset Cause → Type 0
IsFiltered (settings.Crop x0 x1 y0 y1 z0 z1) inputs r = IsOfOne
    (crop_of (box_with x0 x1 y0 y1 z0 z1)) (fed_at 1 inputs) r
IsFiltered (settings.Sample x y z) inputs r = IsOfOne (sample_of (rate_with x y z))
    (fed_at 1 inputs) r
IsFiltered (settings.Threshold lo hi) inputs r = IsOfOne (threshold_of lo hi) (fed_at 1 inputs) r
IsFiltered (settings.Smooth radius) inputs r = IsOfOne (smooth_of (radius_with radius))
    (fed_at 1 inputs) r
IsFiltered (settings.Arith op) inputs r = IsOfTwo (arith_of (op_with op)) (fed_at 1 inputs)
    (fed_at 2 inputs) r
IsFiltered settings.Tets inputs r = AreTetrahedra (fed_at 1 inputs) r
IsFiltered (settings.Select lo hi all) inputs r = IsOfMesh (selections all lo hi)
    (fed_at 1 inputs) r
IsFiltered (settings.Contour count levels) inputs r = IsSectionOf (contour_forms count levels)
    (fed_at 1 inputs) r
IsFiltered (settings.Cut a b c k) inputs r = IsSectionOf (cut_forms a b c k) (fed_at 1 inputs) r
IsFiltered settings.Append inputs r = r ≡ Ok (Mesh (appended (meshes_in inputs)))
IsFiltered settings.Boundary inputs r = IsOfMesh boundaries (fed_at 1 inputs) r
IsFiltered settings.Merge inputs r = IsOfMesh merge_of (fed_at 1 inputs) r
IsFiltered (settings.Writer binary digits version) inputs r = (d : Dataset)
    × (fed_at 1 inputs ≡ Some d) × (r ≡ Ok d)
IsFiltered (settings.File array unit) inputs r = ⊥

-- the information at the ports
abbrev pub all_information : Inputs Dataset → Inputs Information
all_information inputs = map (option_map information_of) inputs

-- what is made where the information at the ports is taken; else the cause
abbrev pub IsMadeWith : Result Information Cause → (Result Dataset Cause → Type 0)
    → Result Dataset Cause → Type 0
IsMadeWith (Ok i) made r = made r
IsMadeWith (Err cause) made r = r ≡ Err cause

-- what a node with these parameters and this file makes of the datasets at its ports
abbrev pub IsEvaluated : Settings → Option (List ℕ) → Inputs Dataset → Result Dataset Cause → Type 0
IsEvaluated (settings.File array unit) file inputs r = IsReadingOf array (unit_with unit) file r
IsEvaluated settings file inputs r = IsMadeWith
    (filter_information settings (all_information inputs)) (IsFiltered settings inputs) r

-- the data rule of a node
abbrev pub DataRule : NodeRule Dataset
DataRule n inputs r = IsEvaluated n.settings n.file inputs r
