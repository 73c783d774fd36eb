-- What a node makes of the datasets at its ports, kind by kind.
use Rattle.std.proofs.Common.{◌≡◌, ℕ, zero, suc, ◌-◌, ℤ, List, [], ◌∷◌, map, get_or, Option, None, Some, Result, Ok, Err, refl, sym, ap, subst, ◌∙◌}
use Rattle.std.specs.Option.{option_map}
use Rattle.viz_fraction.specs.declared.forms.Form.{Form}
use Rattle.viz_dataset.specs.declared.dataset.Dataset.{Dataset}
use Rattle.viz_dataset.specs.declared.dataset.Dataset.TheVariants.{Image, Mesh}
use Rattle.viz_meaning.specs.WholeImages.{WholeImage, whole_of}
use Rattle.viz_sheet.specs.Sheet.{SheetData}
use Rattle.viz_network.specs.declared.fault.Cause.{Cause}
use Rattle.viz_node_meaning.specs.declared.information.Grid.{Grid}
use Rattle.viz_node_meaning.specs.declared.information.Information.{Information}
use Rattle.viz_node_meaning.specs.declared.information.Information.TheVariants.{OfImage, OfMesh}
use Rattle.viz_node_meaning.specs.Rules.{Inputs}
use Rattle.viz_node_meaning.specs.Information.{and_then, fed_at, grid_in, grid_at, either_in, either_at, mesh_in, mesh_at, as_image, information_of, grid_of, shared_grid}
use Rattle.viz_node_meaning.specs.Data.{all_information, IsMadeWith, IsOfOne, IsOfTwo, IsOfMesh, AreTetrahedra, IsSection, IsSectionOf}
use Rattle.viz_node_rules.specs.Steps.Made.{IsOnGrid, IsFromOne, IsFromTwo, IsPassed, IsContouredBy, IsFromMesh, AreFromImage}

-- what feeds a port, seen through a function
pub fed_map : {X Y : Type 0} (f : Option X → Option Y) → f None ≡ None → (i : ℕ) (inputs : List (Option X)) → get_or (map f inputs) i None ≡ f (get_or inputs i None)
fed_map f e i [] = sym e
fed_map f e zero (x ∷ inputs) = refl
fed_map f e (suc i) (x ∷ inputs) = fed_map f e i inputs

-- the information at a port is that of the dataset there
pub informed_at : (port : ℕ) (inputs : Inputs Dataset) → fed_at port (all_information inputs) ≡ option_map information_of (fed_at port inputs)
informed_at port inputs = fed_map (option_map information_of) refl (port - 1) inputs

on_grid : (e : Result Grid Cause) (w : WholeImage) (r : Result Dataset Cause) (P : Result Dataset Cause → Type 0) → ((g : Grid) → e ≡ Ok g → IsOnGrid (Ok g) w r → P r) → IsOnGrid e w r → IsMadeWith (as_image e) P r
on_grid (Ok g) w r P f h = f g refl h
on_grid (Err cause) w r P f h = h

-- a filter of one image
from_one : (grid : Grid → Result Grid Cause) (filter : WholeImage → WholeImage) (d : Option Dataset) (r : Result Dataset Cause) → IsFromOne grid filter d r
    → IsMadeWith (as_image (and_then (grid_in 1 (option_map information_of d)) grid)) (IsOfOne filter d) r
from_one grid filter None r h = h
from_one grid filter (Some (Mesh sheets)) r h = h
from_one grid filter (Some (Image i)) r h = on_grid (grid (grid_of i.extent i.origin i.spacing)) (filter (whole_of i)) r (IsOfOne filter (Some (Image i))) (λ g e w. w) h

pub made_of_one : (grid : Grid → Result Grid Cause) (filter : WholeImage → WholeImage) (inputs : Inputs Dataset) (r : Result Dataset Cause) → IsFromOne grid filter (fed_at 1 inputs) r
    → IsMadeWith (as_image (and_then (grid_at 1 (all_information inputs)) grid)) (IsOfOne filter (fed_at 1 inputs)) r
made_of_one grid filter inputs r h =
    subst (λ o. IsMadeWith (as_image (and_then (grid_in 1 o) grid)) (IsOfOne filter (fed_at 1 inputs)) r) (sym (informed_at 1 inputs)) (from_one grid filter (fed_at 1 inputs) r h)

-- a filter of two images
from_two : (filter : WholeImage → WholeImage → WholeImage) (d e : Option Dataset) (r : Result Dataset Cause) → IsFromTwo filter d e r
    → IsMadeWith (as_image (and_then (grid_in 1 (option_map information_of d)) (λ g. and_then (grid_in 2 (option_map information_of e)) (shared_grid g)))) (IsOfTwo filter d e) r
from_two filter None e r h = h
from_two filter (Some (Mesh sheets)) e r h = h
from_two filter (Some (Image a)) None r h = h
from_two filter (Some (Image a)) (Some (Mesh sheets)) r h = h
from_two filter (Some (Image a)) (Some (Image b)) r h =
    on_grid (shared_grid (grid_of a.extent a.origin a.spacing) (grid_of b.extent b.origin b.spacing)) (filter (whole_of a) (whole_of b)) r
    (IsOfTwo filter (Some (Image a)) (Some (Image b))) (λ g q w. w) h

pub made_of_two : (filter : WholeImage → WholeImage → WholeImage) (inputs : Inputs Dataset) (r : Result Dataset Cause) → IsFromTwo filter (fed_at 1 inputs) (fed_at 2 inputs) r
    → IsMadeWith (as_image (and_then (grid_at 1 (all_information inputs)) (λ g. and_then (grid_at 2 (all_information inputs)) (shared_grid g)))) (IsOfTwo filter (fed_at 1 inputs) (fed_at 2 inputs)) r
made_of_two filter inputs r h =
    let made : Option Information → Option Information → Type 0 = λ o p. IsMadeWith (as_image (and_then (grid_in 1 o) (λ g. and_then (grid_in 2 p) (shared_grid g)))) (IsOfTwo filter (fed_at 1 inputs) (fed_at 2 inputs)) r in
    subst (λ o. made o (fed_at 2 (all_information inputs))) (sym (informed_at 1 inputs))
    (subst (made (option_map information_of (fed_at 1 inputs))) (sym (informed_at 2 inputs)) (from_two filter (fed_at 1 inputs) (fed_at 2 inputs) r h))

-- a contour
contoured : (forms : List Form) (d : Option Dataset) (r : Result Dataset Cause) → IsContouredBy forms d r
    → IsMadeWith (and_then (either_in 1 (option_map information_of d)) (λ i. Ok OfMesh)) (IsSectionOf forms d) r
contoured forms None r h = h
contoured forms (Some d) r h = h

pub made_of_contour : (forms : List Form) (inputs : Inputs Dataset) (r : Result Dataset Cause) → IsContouredBy forms (fed_at 1 inputs) r
    → IsMadeWith (and_then (either_at 1 (all_information inputs)) (λ i. Ok OfMesh)) (IsSectionOf forms (fed_at 1 inputs)) r
made_of_contour forms inputs r h =
    subst (λ o. IsMadeWith (and_then (either_in 1 o) (λ i. Ok OfMesh)) (IsSectionOf forms (fed_at 1 inputs)) r) (sym (informed_at 1 inputs)) (contoured forms (fed_at 1 inputs) r h)

-- the tetrahedra of an image
tetrahedra : (d : Option Dataset) (r : Result Dataset Cause) → AreFromImage d r → IsMadeWith (and_then (grid_in 1 (option_map information_of d)) (λ g. Ok OfMesh)) (AreTetrahedra d) r
tetrahedra None r h = h
tetrahedra (Some (Mesh sheets)) r h = h
tetrahedra (Some (Image i)) r h = h

pub made_of_tetrahedra : (inputs : Inputs Dataset) (r : Result Dataset Cause) → AreFromImage (fed_at 1 inputs) r
    → IsMadeWith (and_then (grid_at 1 (all_information inputs)) (λ g. Ok OfMesh)) (AreTetrahedra (fed_at 1 inputs)) r
made_of_tetrahedra inputs r h =
    subst (λ o. IsMadeWith (and_then (grid_in 1 o) (λ g. Ok OfMesh)) (AreTetrahedra (fed_at 1 inputs)) r) (sym (informed_at 1 inputs)) (tetrahedra (fed_at 1 inputs) r h)

-- a filter of a mesh
from_mesh : (filter : List SheetData → List SheetData) (d : Option Dataset) (r : Result Dataset Cause) → IsFromMesh filter d r
    → IsMadeWith (mesh_in 1 (option_map information_of d)) (IsOfMesh filter d) r
from_mesh filter None r h = h
from_mesh filter (Some (Image i)) r h = h
from_mesh filter (Some (Mesh sheets)) r h = h

pub made_of_mesh : (filter : List SheetData → List SheetData) (inputs : Inputs Dataset) (r : Result Dataset Cause) → IsFromMesh filter (fed_at 1 inputs) r
    → IsMadeWith (mesh_at 1 (all_information inputs)) (IsOfMesh filter (fed_at 1 inputs)) r
made_of_mesh filter inputs r h =
    subst (λ o. IsMadeWith (mesh_in 1 o) (IsOfMesh filter (fed_at 1 inputs)) r) (sym (informed_at 1 inputs)) (from_mesh filter (fed_at 1 inputs) r h)

-- a writer
abbrev Passes : Option Dataset → Result Dataset Cause → Type 0
Passes d r = (e : Dataset) × (d ≡ Some e) × (r ≡ Ok e)

passed : (d : Option Dataset) (r : Result Dataset Cause) → IsPassed d r → IsMadeWith (either_in 1 (option_map information_of d)) (Passes d) r
passed None r h = h
passed (Some e) r h = (e, refl, h)

pub made_of_writer : (inputs : Inputs Dataset) (r : Result Dataset Cause) → IsPassed (fed_at 1 inputs) r
    → IsMadeWith (either_at 1 (all_information inputs)) (λ s. (e : Dataset) × (fed_at 1 inputs ≡ Some e) × (s ≡ Ok e)) r
made_of_writer inputs r h = subst (λ o. IsMadeWith (either_in 1 o) (Passes (fed_at 1 inputs)) r) (sym (informed_at 1 inputs)) (passed (fed_at 1 inputs) r h)
