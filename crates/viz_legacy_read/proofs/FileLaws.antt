-- The reader of a file decides its rule.
use Rattle.std.proofs.Common.{◌≡◌, ℕ, List, length, Result, refl, sym, ap, subst, inl, inr}
use Rattle.viz_base.specs.declared.node.Pick.{Pick}
use Rattle.viz_lex.specs.declared.fault.FileFault.{FileFault}
use Rattle.viz_lex.specs.Reading.{Reading}
use Rattle.viz_lex.specs.Rules.{Rule, gives, follow, Decides}
use Rattle.viz_lex.proofs.RuleLemmas.{decides-gives, decides-follow, decides-choose}
use Rattle.viz_attr.specs.Grammar.{attributes}
use Rattle.viz_attr.specs.Steps.Parts.{attributes_at}
use Rattle.viz_attr.proofs.AttributeLaws.{decides-attributes}
use Rattle.viz_dataset.specs.declared.dataset.Dataset.TheVariants.{Image, Mesh}
use Rattle.viz_mesh_read.specs.declared.coordinates.FilePoints.{FilePoints}
use Rattle.viz_counted_cells.specs.Sections.{numbers_of_cells}
use Rattle.viz_mesh_read.specs.Grid.{Grid, grid, grid_numbers}
use Rattle.viz_mesh_read.specs.GridSteps.{grid_at}
use Rattle.viz_mesh_read.specs.Poly.{ByKind, Poly, polydata, polydata_numbers, numbers_by_kind}
use Rattle.viz_mesh_read.specs.PolySteps.{polydata_at}
use Rattle.viz_mesh_read.specs.Pieces.{pieces_in}
use Rattle.viz_mesh_read.proofs.GridLaws.{decides-grid_numbers}
use Rattle.viz_mesh_read.proofs.PolyLaws.{decides-polydata_numbers}
use Rattle.viz_mesh_read.proofs.PieceLemmas.{pieces_in-list}
use Rattle.viz_sheet.specs.Sheet.{SheetData}
use Rattle.viz_file_mesh.specs.FileMesh.{mesh_of}
use Rattle.viz_file_mesh.specs.GridPieces.{grid_pieces_in}
use Rattle.viz_file_mesh.proofs.GridCells.{grid_pieces_in-list}
use Rattle.viz_legacy_read.specs.declared.front.Preamble.{Preamble}
use Rattle.viz_legacy_read.specs.Header.{Header, Heading, header}
use Rattle.viz_legacy_read.specs.Header.Heading.{OfImage, OfMesh}
use Rattle.viz_legacy_read.specs.ImageFile.{asked, image_of, image_behind}
use Rattle.viz_legacy_read.specs.MeshFile.{asked_of, grid_behind, cells_by_kind, poly_behind, is_grid, mesh_behind}
use Rattle.viz_legacy_read.specs.File.{contents, file}
use Rattle.viz_legacy_read.specs.Steps.{header_at, image_behind_at, grid_behind_at, cells_in, poly_behind_at, mesh_behind_at, contents_at, file_at}
use Rattle.viz_legacy_read.proofs.HeaderLaws.{decides-header}

-- what stands behind a value of which the code holds a view
abbrev by_views : {A B C : Type 0} → Rule A → (A → B) → (B → Rule C) → Rule C
by_views a view by_view = follow (follow a (λ x. gives (view x))) by_view

view-forth : {A B C : Type 0} (a : Rule A) (view : A → B) (by_view : B → Rule C) (f : A → Rule C) → ((x : A) → by_view (view x) ≡ f x)
    → (r next : Reading) (y : C) → (by_views a view by_view).is r next y → (follow a f).is r next y
view-forth {B = B} {C = C} a view by_view f same r next y h =
    let one : (by_view h.0).is h.2.1 next y = subst (λ (s : Reading). (by_view h.0).is s next y) h.2.3.0 h.3 in
    let two : (by_view (view h.2.0)).is h.2.1 next y = subst (λ (b : B). (by_view b).is h.2.1 next y) h.2.3.1 one in
    (h.2.0, h.2.1, h.2.2, subst (λ (rule : Rule C). rule.is h.2.1 next y) (same h.2.0) two)

view-back : {A B C : Type 0} (a : Rule A) (view : A → B) (by_view : B → Rule C) (f : A → Rule C) → ((x : A) → by_view (view x) ≡ f x)
    → (r next : Reading) (y : C) → (follow a f).is r next y → (by_views a view by_view).is r next y
view-back {C = C} a view by_view f same r next y h =
    (view h.0, h.1, (h.0, h.1, h.2, (refl, refl)), subst (λ (rule : Rule C). rule.is h.1 next y) (sym (same h.0)) h.3)

fault-forth : {A B C : Type 0} (a : Rule A) (view : A → B) (by_view : B → Rule C) (f : A → Rule C) → ((x : A) → by_view (view x) ≡ f x)
    → (r : Reading) (fault : FileFault) → (by_views a view by_view).isnt r fault → (follow a f).isnt r fault
fault-forth {B = B} {C = C} a view by_view f same r fault h =
    elim h [
      | inl front ↦ elim front [ inl first ↦ inl first | inr none ↦ absurd none.3 ]
      | inr g ↦
          (let one : (by_view g.0).isnt g.2.1 fault = subst (λ (s : Reading). (by_view g.0).isnt s fault) g.2.3.0 g.3 in
          let two : (by_view (view g.2.0)).isnt g.2.1 fault = subst (λ (b : B). (by_view b).isnt g.2.1 fault) g.2.3.1 one in
          inr (g.2.0, g.2.1, g.2.2, subst (λ (rule : Rule C). rule.isnt g.2.1 fault) (same g.2.0) two))
    ]

fault-back : {A B C : Type 0} (a : Rule A) (view : A → B) (by_view : B → Rule C) (f : A → Rule C) → ((x : A) → by_view (view x) ≡ f x)
    → (r : Reading) (fault : FileFault) → (follow a f).isnt r fault → (by_views a view by_view).isnt r fault
fault-back {C = C} a view by_view f same r fault h =
    elim h [
      | inl first ↦ inl (inl first)
      | inr g ↦ inr (view g.0, g.1, (g.0, g.1, g.2, (refl, refl)), subst (λ (rule : Rule C). rule.isnt g.1 fault) (sym (same g.0)) g.3)
    ]

decides-view : {A B C : Type 0} (a : Rule A) (view : A → B) (by_view : B → Rule C) (f : A → Rule C) (read : Reading → Result (C × Reading) FileFault)
    → ((x : A) → by_view (view x) ≡ f x) → Decides (by_views a view by_view) read → Decides (follow a f) read
decides-view a view by_view f read same d = record {
  found = λ r y e. view-forth a view by_view f same r y.1 y.0 (d.found r y e);
  only = λ r next y h. d.only r next y (view-back a view by_view f same r next y h);
  stops = λ r fault e. fault-forth a view by_view f same r fault (d.stops r fault e);
  only_stops = λ r fault h. d.only_stops r fault (fault-back a view by_view f same r fault h);
  along = λ r next y h. d.along r next y (view-back a view by_view f same r next y h);
}

-- ---- an image

decides-image_behind : (pick : Pick) (h : Header) → Decides (image_behind pick h) (image_behind_at pick h)
unfolding image_behind_at
decides-image_behind pick h =
    decides-follow (attributes (asked h pick)) _ (attributes_at (asked h pick)) _ (decides-attributes (asked h pick)) (λ column. decides-gives (image_of h column))

-- ---- a grid

-- the attributes, and the mesh with them
abbrev mesh_with : Pick → ℕ → Preamble → FilePoints → ℕ → List (List ℕ) → Rule (List SheetData)
mesh_with pick unit p points cells pieces = follow (attributes (asked_of p pick points.count cells)) (λ picked. gives (mesh_of unit points picked pieces))

abbrev grid_view : Grid → FilePoints × (ℕ × List ℕ)
grid_view g = (g.points, (length g.cells, numbers_of_cells g.cells))

abbrev by_numbers : Pick → ℕ → Preamble → FilePoints × (ℕ × List ℕ) → Rule (List SheetData)
by_numbers pick unit p g = mesh_with pick unit p g.0 g.1.0 (grid_pieces_in g.1)

same_pieces : (pick : Pick) (unit : ℕ) (p : Preamble) (points : FilePoints) (cells : ℕ) (some other : List (List ℕ)) → some ≡ other → mesh_with pick unit p points cells some ≡ mesh_with pick unit p points cells other
same_pieces pick unit p points cells some other e = ap (mesh_with pick unit p points cells) e

decides-grid_behind : (pick : Pick) (unit : ℕ) (p : Preamble) → Decides (grid_behind pick unit p) (grid_behind_at pick unit p)
unfolding grid_behind_at
decides-grid_behind pick unit p =
    decides-view (grid p.binary p.later) grid_view (by_numbers pick unit p) _ _ (λ g. same_pieces pick unit p g.points (length g.cells) _ _ (grid_pieces_in-list g.cells))
    (decides-follow (grid_numbers p.binary p.later) (by_numbers pick unit p) (grid_at p.binary p.later) _ (decides-grid_numbers p.binary p.later) (λ g.
    decides-follow (attributes (asked_of p pick g.0.count g.1.0)) _ (attributes_at (asked_of p pick g.0.count g.1.0)) _ (decides-attributes (asked_of p pick g.0.count g.1.0)) (λ picked. decides-gives _)))

-- ---- polydata

abbrev poly_view : Poly → FilePoints × ByKind (ℕ × List ℕ)
poly_view all = (all.points, numbers_by_kind all.cells)

abbrev by_kinds : Pick → ℕ → Preamble → FilePoints × ByKind (ℕ × List ℕ) → Rule (List SheetData)
by_kinds pick unit p all = mesh_with pick unit p all.0 (cells_in all.1) (pieces_in all.1)

decides-poly_behind : (pick : Pick) (unit : ℕ) (p : Preamble) → Decides (poly_behind pick unit p) (poly_behind_at pick unit p)
unfolding poly_behind_at
decides-poly_behind pick unit p =
    decides-view (polydata p.binary p.later) poly_view (by_kinds pick unit p) _ _ (λ all. same_pieces pick unit p all.points (cells_by_kind all.cells) _ _ (pieces_in-list all.cells))
    (decides-follow (polydata_numbers p.binary p.later) (by_kinds pick unit p) (polydata_at p.binary p.later) _ (decides-polydata_numbers p.binary p.later) (λ all.
    decides-follow (attributes (asked_of p pick all.0.count (cells_in all.1))) _ (attributes_at (asked_of p pick all.0.count (cells_in all.1))) _ (decides-attributes (asked_of p pick all.0.count (cells_in all.1))) (λ picked. decides-gives _)))

-- ---- a file

decides-mesh_behind : (pick : Pick) (unit : ℕ) (p : Preamble) → Decides (mesh_behind pick unit p) (mesh_behind_at pick unit p)
unfolding mesh_behind_at
decides-mesh_behind pick unit p = decides-choose (is_grid p) _ _ _ _ (decides-grid_behind pick unit p) (decides-poly_behind pick unit p)

pub decides-contents : (pick : Pick) (unit : ℕ) (h : Heading) → Decides (contents pick unit h) (contents_at pick unit h)
unfolding contents_at
decides-contents pick unit (OfImage h) = decides-follow (image_behind pick h) _ (image_behind_at pick h) _ (decides-image_behind pick h) (λ i. decides-gives (Image i))
decides-contents pick unit (OfMesh p) = decides-follow (mesh_behind pick unit p) _ (mesh_behind_at pick unit p) _ (decides-mesh_behind pick unit p) (λ m. decides-gives (Mesh m))

pub decides-file : (pick : Pick) (unit : ℕ) → Decides (file pick unit) (file_at pick unit)
unfolding file_at
decides-file pick unit = decides-follow header _ header_at _ decides-header (λ h. decides-contents pick unit h)
