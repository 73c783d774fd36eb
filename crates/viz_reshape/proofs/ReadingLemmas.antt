-- A file is read as a dataset of one sheet of leaves, and as one.
use Rattle.std.proofs.Common.{◌≡◌, ℕ, Bool, true, false, List, [], ◌∷◌, replicate, Option, Some, None, Result, Ok, Err, refl, sym, subst}
use Rattle.viz_base.specs.declared.node.Pick.{Pick}
use Rattle.viz_base.specs.declared.node.Pick.TheVariants.{First}
use Rattle.viz_column.specs.Numbers.{Numbers}
use Rattle.viz_dataset.specs.declared.dataset.Dataset.{Dataset}
use Rattle.viz_extent.specs.Extent.{count_of}
use Rattle.viz_dataset.specs.Images.{ImageData}
use Rattle.viz_file_mesh.specs.FileMesh.{file_points, mesh_of}
use Rattle.viz_file_mesh.specs.GridPieces.{grid_pieces}
use Rattle.viz_kinds.specs.declared.settings.Settings.TheVariants as settings
use Rattle.viz_kuhn.specs.Cubes.{tetrahedra_of}
use Rattle.viz_legacy_read.specs.File.{contents}
use Rattle.viz_legacy_read.specs.Header.{Heading}
use Rattle.viz_legacy_read.specs.Header.Heading.{OfImage, OfMesh}
use Rattle.viz_legacy_read.specs.MeshFile.{grid_behind, is_grid, poly_behind}
use Rattle.viz_legacy_read.specs.Reading.{Reads, Stops}
use Rattle.viz_lex.specs.declared.fault.FileFault.{FileFault}
use Rattle.viz_lex.specs.Reading.{Reading}
use Rattle.viz_lex.specs.Rules.{Rule, choose}
use Rattle.viz_meaning.specs.Tetrahedra.{leaf_points, tetrahedra_sheet}
use Rattle.viz_meaning.proofs.LeafCells.{leaf-names}
use Rattle.viz_mesh_read.specs.Pieces.{pieces_of}
use Rattle.viz_mesh_read.specs.declared.coordinates.FilePoints.{FilePoints}
use Rattle.viz_network.specs.declared.fault.Cause.{Cause}
use Rattle.viz_network.specs.declared.fault.Cause.TheVariants.{BadFile}
use Rattle.viz_network.specs.declared.node.Node.{Node}
use Rattle.viz_node_meaning.specs.Data.{DataRule, IsReadingOf}
use Rattle.viz_node_meaning.specs.Rules.{IsOne}
use Rattle.viz_sheet.specs.Sheet.{SheetData}
use Rattle.viz_reshape.specs.Steps.Work.{IsOneIn, IsOneSheet}

-- ---- one sheet of leaves

image_one : (image : ImageData) → IsOneSheet (tetrahedra_sheet image ∷ [])
image_one image = record {
  sheet = tetrahedra_sheet image;
  one = refl;
  leaves = (leaf-names (count_of image.extent) (leaf_points image) (tetrahedra_of image.extent)).sized;
}

mesh_one : (unit : ℕ) (points : FilePoints) (picked : Option Numbers) (pieces : List (List ℕ)) (sheets : List SheetData) → sheets ≡ mesh_of unit points picked pieces → IsOneSheet sheets
mesh_one unit points picked pieces sheets is = record {
  sheet = _;
  one = is;
  leaves = (leaf-names points.count (file_points unit points picked) pieces).sized;
}

-- what holds by either of two rules
by_either : {V : Type 0} (P : V → Type 0) (test : Bool) (a b : Rule V) (old new : Reading) (x : V)
    → (a.is old new x → P x) → (b.is old new x → P x) → (choose test a b).is old new x → P x
by_either P true a b old new x f g h = f h
by_either P false a b old new x f g h = g h

contents_one : (pick : Pick) (unit : ℕ) (h : Heading) (old new : Reading) (d : Dataset) → (contents pick unit h).is old new d → IsOneIn d
contents_one pick unit (OfImage i) old new d h = subst IsOneIn (sym h.3.1) (image_one h.0)
contents_one pick unit (OfMesh p) old new d h =
    subst IsOneIn (sym h.3.1)
    (by_either IsOneSheet (is_grid p) (grid_behind pick unit p) (poly_behind pick unit p) old h.1 h.0
    (λ g. mesh_one unit g.0.points g.3.0 (grid_pieces g.0.cells) h.0 g.3.3.1)
    (λ g. mesh_one unit g.0.points g.3.0 (pieces_of g.0.cells) h.0 g.3.3.1) h.2)

pub reads_one : (bytes : List ℕ) (pick : Pick) (unit : ℕ) (d : Dataset) → Reads bytes pick unit d → IsOneIn d
reads_one bytes pick unit d h = contents_one pick unit h.1.0 h.1.1 h.0 d h.1.3

-- ---- one dataset or fault

abbrev node_of : List ℕ → Node
node_of bytes = record {
  id = record { 0 = 0 };
  settings = settings.File First 0;
  release = false;
  inputs = replicate 8 None;
  file = Some bytes;
  stamp = 0;
}

pub reading_is_one : IsOne DataRule → (bytes : List ℕ) (a b : Result Dataset Cause) → IsReadingOf First 0 (Some bytes) a → IsReadingOf First 0 (Some bytes) b → a ≡ b
reading_is_one one bytes a b p q = one (node_of bytes) [] a b p q

-- ---- readings

pub read_made : (bytes seen : List ℕ) (d : Dataset) → seen ≡ bytes → Reads seen First 0 d → IsReadingOf First 0 (Some bytes) (Ok d)
read_made bytes seen d is reads = subst (λ (b : List ℕ). Reads b First 0 d) is reads

pub read_stopped : (bytes seen : List ℕ) (fault : FileFault) → seen ≡ bytes → Stops seen First 0 fault → IsReadingOf First 0 (Some bytes) (Err (BadFile fault))
read_stopped bytes seen fault is stops = (fault, subst (λ (b : List ℕ). Stops b First 0 fault) is stops, refl)
