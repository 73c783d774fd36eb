-- What nodes give is shared out, row by row, and along the cone.
use Rattle.std.proofs.Common.{
  ◌≡◌,
  ℕ,
  ℤ,
  zero,
  suc,
  ◌*◌,
  ◌<◌,
  Bool,
  List,
  [],
  ◌∷◌,
  ◌++◌,
  get_or,
  length,
  map,
  Option,
  None,
  Some,
  Ok,
  refl,
  sym,
  ap,
  subst,
  ◌∙◌,
  arith,
}
use Rattle.std.specs.List.{range_with_len}
use Rattle.std.proofs.lemmas.List.{length-map}
use Rattle.std.proofs.lemmas.Nat.{mul-le}
use Rattle.viz_dataset.specs.Images.{ImageData}
use Rattle.viz_dataset.specs.declared.dataset.Dataset.{Dataset}
use Rattle.viz_dataset.specs.declared.dataset.Dataset.TheVariants.{Image, Mesh}
use Rattle.viz_extent.specs.Slabs.{first_layer, next_layer}
use Rattle.viz_fraction.specs.declared.forms.Form.{Form}
use Rattle.viz_kinds.specs.declared.settings.Settings.{Settings}
use Rattle.viz_kinds.specs.declared.settings.Settings.TheVariants as settings
use Rattle.viz_kuhn.specs.Cubes.{cubes_x, cubes_y, cubes_z, tetrahedra_of}
use Rattle.viz_kuhn.proofs.CubeLemmas.{length-tetrahedra_of}
use Rattle.viz_meaning.specs.Section.{sections_of}
use Rattle.viz_meaning.specs.Tetrahedra.{sheets_of, tetrahedra_sheet}
use Rattle.viz_mesh_meaning.specs.Append.{appended}
use Rattle.viz_mesh_meaning.specs.Facets.{boundaries}
use Rattle.viz_mesh_meaning.specs.Select.{selections}
use Rattle.viz_network.specs.declared.node.Node.{Node}
use Rattle.viz_node_meaning.specs.Data.{
  AreTetrahedra,
  IsOfMesh,
  contour_forms,
  cut_forms,
  meshes_in,
}
use Rattle.viz_node_meaning.specs.Information.{fed_at}
use Rattle.viz_node_meaning.specs.Rules.{Inputs}
use Rattle.viz_parts.specs.Pieces.{AreAll, Division, SharesOut, in_turn}
use Rattle.viz_piece_divisions.specs.Divisions.{
  Owns,
  appended_division,
  boundary_owns,
  handed_division,
  section_owns,
  selected_owns,
}
use Rattle.viz_piece_divisions.specs.Shares.{
  AppendedShareOut,
  AreSharedOut,
  BoundariesShareOut,
  SectionsShareOut,
  SelectionsShareOut,
  TurnSharesOut,
}
use Rattle.viz_piece_layers.specs.Layers.{layer_size}
use Rattle.viz_piece_layers.specs.Pieces.{OwnsAreAll, own_tets}
use Rattle.viz_piece_layers.proofs.PieceLemmas.{owns_within}
use Rattle.viz_piece_tets.specs.Tets.{by_layers}
use Rattle.viz_sheet.specs.Sheet.{SheetData}
use Rattle.viz_node_division.specs.Divided.{Divided, DividedRule, division_at, division_of, divisions_in, handed_at, mesh_division, sheets_at, sheets_division, turn_of, wholes}
use Rattle.viz_node_division.specs.Exact.{IsExact, IsExactSectionOf}
use Rattle.viz_node_division.specs.Laws.{DivisionsMarkCells, DivisionsShareOut, OnlyPieceOwnsAll}
use Rattle.viz_node_division.specs.Shares.{MarksCells}
use Rattle.viz_node_division.proofs.DividedLemmas.{shared_as}
use Rattle.viz_node_division.proofs.FoldLemmas.{OfAll, value_has}
use Rattle.viz_node_division.proofs.RowLemmas.{
  IsOk,
  first_whole,
  of_either,
  of_image,
  of_mesh,
  row_made,
  sections_made,
  whole_at,
}
use Rattle.viz_node_division.proofs.MarkLemmas.{
  boundary_marks,
  joined_marks,
  length-own_range,
  no_marks,
  only_piece,
  section_marks,
  selected_marks,
  turn_marks,
}

-- ---- what is carried along the cone

-- a division shares sheets out, for each number of pieces
pub record Shares (sheets : List SheetData) (division : Division) : Type 0 where
  pub out : (n : ℕ) → 0 < n → SharesOut division sheets n
  pub marks : (n : ℕ) → 0 < n → MarksCells division sheets n

-- that of the sheets that a dataset is taken through does
abbrev pub IsShared : Dataset → Division → Type 0
IsShared whole division = Shares (sheets_of whole) (sheets_division whole division)

abbrev pub HasShares : Divided → Type 0
HasShares d = IsShared d.whole d.division

abbrev PortShared : Option Divided → Type 0
PortShared None = Unit {0}
PortShared (Some d) = HasShares d

first_shared : (inputs : Inputs Divided) → OfAll HasShares inputs → PortShared (fed_at 1 inputs)
first_shared [] h = tt
first_shared (None ∷ inputs) h = tt
first_shared (Some d ∷ inputs) h = h.0

-- ---- rows

-- what a filter hands on, where it takes shared sheets to shared sheets
module _ (make : List SheetData → List SheetData) (hand : List SheetData → Owns
    → Owns) (keeps : (sheets : List SheetData) (division : Division) → Shares sheets division
    → Shares (make sheets) (handed_division hand sheets division)) where
  handed : (d : Divided) (w : Dataset) → HasShares d → Mesh (make (sheets_of d.whole)) ≡ w
      → IsShared w (handed_at hand (Some d))
  handed d w h e =
      subst (λ z. IsShared z (handed_at hand (Some d))) e
      (keeps (sheets_of d.whole) (sheets_division d.whole d.division) h)

  mesh_port : (port : Option Divided) (w : Dataset) → PortShared port
      → IsOfMesh make (whole_at port) (Ok w) → IsShared w (handed_at hand port)
  mesh_port None w h m = absurd m
  mesh_port (Some d) w h m = handed d w h (of_mesh make d.whole w m)

  mesh_row : (inputs : Inputs Divided) (w : Dataset) → OfAll HasShares inputs
      → IsOfMesh make (fed_at 1 (wholes inputs)) (Ok w)
      → IsShared w (handed_at hand (fed_at 1 inputs))
  mesh_row inputs w h m =
      mesh_port (fed_at 1 inputs) w (first_shared inputs h)
      (subst (λ o. IsOfMesh make o (Ok w)) (first_whole inputs) m)

module _ (forms : List Form) (keeps : (sheets : List SheetData) (division : Division)
    → Shares sheets division
    → Shares (sections_of forms sheets)
    (handed_division (section_owns forms) sheets division)) where
  section_port : (port : Option Divided) (w : Dataset) → PortShared port
      → IsExactSectionOf forms (whole_at port) (Ok w) → IsShared w (handed_at (section_owns forms) port)
  section_port None w h m = absurd m
  section_port (Some d) w h m =
      handed (sections_of forms) (section_owns forms) keeps d w h (of_either forms d.whole w m)

  section_row : (inputs : Inputs Divided) (w : Dataset) → OfAll HasShares inputs
      → IsExactSectionOf forms (fed_at 1 (wholes inputs)) (Ok w)
      → IsShared w (handed_at (section_owns forms) (fed_at 1 inputs))
  section_row inputs w h m =
      section_port (fed_at 1 inputs) w (first_shared inputs h)
      (subst (λ o. IsExactSectionOf forms o (Ok w)) (first_whole inputs) m)

tets_port : (port : Option Divided) (w : Dataset) → PortShared port
    → AreTetrahedra (whole_at port) (Ok w) → IsShared w (sheets_at port)
tets_port None w h m = absurd m
tets_port (Some d) w h m = subst (λ z. IsShared z (sheets_at (Some d))) (of_image d.whole w m) h

tets_row : (inputs : Inputs Divided) (w : Dataset) → OfAll HasShares inputs
    → AreTetrahedra (fed_at 1 (wholes inputs)) (Ok w) → IsShared w (sheets_at (fed_at 1 inputs))
tets_row inputs w h m =
    tets_port (fed_at 1 inputs) w (first_shared inputs h)
    (subst (λ o. AreTetrahedra o (Ok w)) (first_whole inputs) m)

writer_port : (port : Option Divided) (w : Dataset) → PortShared port → whole_at port ≡ Some w
    → IsShared w (division_at port)
writer_port None w h e = let bad : ⊥ = cc in absurd bad
writer_port (Some d) w h e =
    let same : d.whole ≡ w = cc in
    subst (λ z. IsShared z d.division) same h

writer_row : (inputs : Inputs Divided) (w d : Dataset) → OfAll HasShares inputs
    → fed_at 1 (wholes inputs) ≡ Some d → IsOk (Ok w) d
    → IsShared w (division_at (fed_at 1 inputs))
writer_row inputs w d h e m =
    let same : d ≡ w = cc in
    writer_port (fed_at 1 inputs) w (first_shared inputs h) (sym (first_whole inputs) ∙ e
    ∙ ap (λ z. Some z) same)

-- ---- meshes one behind the other

in_front : (a : List SheetData) (d : Division) (meshes : List (List SheetData))
    (divisions : List Division) (n : ℕ)
    → SharesOut d a n → AreSharedOut meshes divisions n
    → AreSharedOut (a ∷ meshes) (d ∷ divisions) n
in_front a d meshes divisions n h t = record { matched = ap suc t.matched; each = each }
  where
    each : (k : ℕ) (e : Division) → k < length (a ∷ meshes)
        → SharesOut (get_or (d ∷ divisions) k e) (get_or (a ∷ meshes) k []) n
    each zero e l = h
    each (suc k) e l = t.each k e (omega (arith, l))

one_in_front : (w : Dataset) (e : Division) (inputs : Inputs Divided) (n : ℕ) → 0 < n
    → IsShared w e → AreSharedOut (meshes_in (wholes inputs)) (divisions_in inputs) n
    → AreSharedOut (meshes_in (Some w ∷ wholes inputs))
    (mesh_division w e ++ divisions_in inputs) n
one_in_front (Image i) e inputs n some h t = t
one_in_front (Mesh sheets) e inputs n some h t =
    in_front sheets e (meshes_in (wholes inputs)) (divisions_in inputs) n (h.out n some) t

all_out : (inputs : Inputs Divided) (n : ℕ) → 0 < n → OfAll HasShares inputs
    → AreSharedOut (meshes_in (wholes inputs)) (divisions_in inputs) n
all_out [] n some h = record { matched = refl; each = λ k d l. absurd (omega (arith, l)) }
all_out (None ∷ inputs) n some h = all_out inputs n some h
all_out (Some d ∷ inputs) n some h =
    one_in_front d.whole d.division inputs n some h.0 (all_out inputs n some h.1)

one_marked : (w : Dataset) (e : Division) (inputs : Inputs Divided) (n : ℕ) → 0 < n → IsShared w e
    → MarksCells (appended_division (divisions_in inputs)) (appended (meshes_in (wholes inputs))) n
    → MarksCells (appended_division (mesh_division w e ++ divisions_in inputs))
    (appended (meshes_in (Some w ∷ wholes inputs))) n
one_marked (Image i) e inputs n some h t = t
one_marked (Mesh sheets) e inputs n some h t =
    joined_marks e (appended_division (divisions_in inputs)) sheets
    (appended (meshes_in (wholes inputs))) n (λ p less. (h.out n some).matched p less)
    (h.marks n some) t

all_marked : (inputs : Inputs Divided) (n : ℕ) → 0 < n → OfAll HasShares inputs
    → MarksCells (appended_division (divisions_in inputs)) (appended (meshes_in (wholes inputs))) n
all_marked [] n some h = no_marks n
all_marked (None ∷ inputs) n some h = all_marked inputs n some h
all_marked (Some d ∷ inputs) n some h =
    one_marked d.whole d.division inputs n some h.0 (all_marked inputs n some h.1)

-- ---- all rows

-- how many tetrahedra an image has
count_all : (image : ImageData)
    → length (tetrahedra_sheet image).cells ≡ layer_size image.extent * cubes_z image.extent
count_all image =
    let b = image.extent in
    length-map (tetrahedra_of b) _ ∙ length-tetrahedra_of b
    ∙ turned_round (cubes_x b) (cubes_y b) (cubes_z b)
  where
    turned_round : (x y z : ℕ) → 6 * (x * y * z) ≡ 6 * (x * y) * z
    turned_round x y z = omega arith

module _ (turn : TurnSharesOut) (selection : SelectionsShareOut) (section : SectionsShareOut)
    (boundary : BoundariesShareOut) (joined : AppendedShareOut) (layers : OwnsAreAll) where
  turned : (sheets : List SheetData) → Shares sheets (in_turn sheets)
  turned sheets =
      record { out = λ n some. turn sheets n some; marks = λ n some. turn_marks sheets n }

  layer_marks : (image : ImageData) (n : ℕ)
      → MarksCells (by_layers image.extent) (tetrahedra_sheet image ∷ []) n
  layer_marks image n = record { each = each }
    where
      each : (p k : ℕ) (s : SheetData) → p < n → k < 1
          → length (get_or (by_layers image.extent p n) k []) ≡ length
          (get_or (tetrahedra_sheet image ∷ []) k s).cells
      each p zero s less l =
          let b = image.extent in
          let size = layer_size b in
          let within = owns_within p n b less in
          length-own_range (size * cubes_z b) (size * first_layer p n b) (size * next_layer p n b)
          (mul-le size (first_layer p n b) size (next_layer p n b) (omega arith) within.0)
          (mul-le size (next_layer p n b) size (cubes_z b) (omega arith) within.1)
          ∙ sym (count_all image)
      each p (suc k) s less l = absurd (omega (arith, l))

  layered : (image : ImageData) → Shares (tetrahedra_sheet image ∷ []) (by_layers image.extent)
  layered image =
      record {
        out = λ n some. record { matched = λ p less. refl; all = all n some };
        marks = λ n some. layer_marks image n;
      }
    where
      all : (n : ℕ) → 0 < n → (k : ℕ) (s : SheetData) → k < 1
          → AreAll (length (get_or (tetrahedra_sheet image ∷ []) k s).cells)
          (map (λ p. get_or (by_layers image.extent p n) k []) (range_with_len 0 n))
      all n some zero s l =
          subst (λ k. AreAll k (map (own_tets n image.extent) (range_with_len 0 n)))
          (sym (length-map (tetrahedra_of image.extent) _)) (layers image.extent n some)
      all n some (suc k) s l = absurd (omega (arith, l))

  row_turned : (w : Dataset) → IsShared w (turn_of w)
  row_turned (Image i) = layered i
  row_turned (Mesh sheets) = turned sheets

  keeps_selected : (all : Bool) (lo hi : ℤ) (sheets : List SheetData) (division : Division)
      → Shares sheets division
      → Shares (selections all lo hi sheets)
      (handed_division (selected_owns all lo hi) sheets division)
  keeps_selected all lo hi sheets division h = record {
    out = λ n some. selection all lo hi sheets division n (h.out n some);
    marks = λ n some. selected_marks all lo hi sheets division n (h.out n some) (h.marks n some);
  }

  keeps_sections : (forms : List Form) (sheets : List SheetData) (division : Division)
      → Shares sheets division
      → Shares (sections_of forms sheets) (handed_division (section_owns forms) sheets division)
  keeps_sections forms sheets division h = record {
    out = λ n some. section forms sheets division n (h.out n some);
    marks = λ n some. section_marks forms sheets division n (h.out n some) (h.marks n some);
  }

  keeps_boundaries : (sheets : List SheetData) (division : Division) → Shares sheets division
      → Shares (boundaries sheets) (handed_division boundary_owns sheets division)
  keeps_boundaries sheets division h = record {
    out = λ n some. boundary sheets division n (h.out n some);
    marks = λ n some. boundary_marks sheets division n (h.out n some) (h.marks n some);
  }

  append_row : (inputs : Inputs Divided) (w : Dataset) → OfAll HasShares inputs
      → IsOk (Ok w) (Mesh (appended (meshes_in (wholes inputs))))
      → IsShared w (appended_division (divisions_in inputs))
  append_row inputs w h m =
      let same : Mesh (appended (meshes_in (wholes inputs))) ≡ w = cc in
      let shares : Shares (appended (meshes_in (wholes inputs)))
      (appended_division (divisions_in inputs)) = record {
        out =
            λ n some. joined (meshes_in (wholes inputs)) (divisions_in inputs) n
            (all_out inputs n some h);
        marks = λ n some. all_marked inputs n some h;
      } in
      subst (λ z. IsShared z (appended_division (divisions_in inputs))) same shares

  row_shared : (s : Settings) (file : Option (List ℕ)) (inputs : Inputs Divided) (w : Dataset)
      → OfAll HasShares inputs → IsExact s file (wholes inputs) (Ok w)
      → IsShared w (division_of s inputs w)
  row_shared (settings.File array unit) file inputs w h m = row_turned w
  row_shared (settings.Crop x0 x1 y0 y1 z0 z1) file inputs w h m = row_turned w
  row_shared (settings.Sample x y z) file inputs w h m = row_turned w
  row_shared (settings.Threshold lo hi) file inputs w h m = row_turned w
  row_shared (settings.Smooth radius) file inputs w h m = row_turned w
  row_shared (settings.Arith op) file inputs w h m = row_turned w
  row_shared settings.Tets file inputs w h m =
      tets_row inputs w h (row_made settings.Tets inputs w m)
  row_shared (settings.Select lo hi all) file inputs w h m =
      mesh_row (selections all lo hi) (selected_owns all lo hi)
      (keeps_selected all lo hi) inputs w h (row_made (settings.Select lo hi all) inputs w m)
  row_shared (settings.Contour count levels) file inputs w h m =
      section_row (contour_forms count levels)
      (keeps_sections (contour_forms count levels)) inputs w h
      (sections_made (settings.Contour count levels) (contour_forms count levels) inputs w m)
  row_shared (settings.Cut a b c r) file inputs w h m =
      section_row (cut_forms a b c r) (keeps_sections (cut_forms a b c r)) inputs w h
      (sections_made (settings.Cut a b c r) (cut_forms a b c r) inputs w m)
  row_shared settings.Append file inputs w h m =
      append_row inputs w h (row_made settings.Append inputs w m)
  row_shared settings.Boundary file inputs w h m =
      mesh_row boundaries boundary_owns keeps_boundaries inputs w h
      (row_made settings.Boundary inputs w m)
  row_shared settings.Merge file inputs w h m = row_turned w
  row_shared (settings.Writer binary digits version) file inputs w h m =
      let r = row_made (settings.Writer binary digits version) inputs w m in
      writer_row inputs w r.0 h r.1 r.2

  node_shared : (n : Node) (inputs : Inputs Divided) (d : Divided) → OfAll HasShares inputs
      → DividedRule n inputs (Ok d) → HasShares d
  node_shared n inputs d h m =
      subst (IsShared d.whole) (sym m.divided)
      (row_shared n.settings n.file inputs d.whole h m.exact)

  pub all_shared : DivisionsShareOut
  all_shared cone sheets division d n some =
      (value_has DividedRule HasShares node_shared cone
      (shared_as (Mesh sheets) division) d.given).out n some

  pub all_marks : DivisionsMarkCells
  all_marks cone sheets division d n some =
      (value_has DividedRule HasShares node_shared cone
      (shared_as (Mesh sheets) division) d.given).marks n some

  pub only_owns_all : OnlyPieceOwnsAll
  only_owns_all cone sheets division d =
      only_piece division sheets (all_shared cone sheets division d 1 (omega arith))
      (all_marks cone sheets division d 1 (omega arith))
