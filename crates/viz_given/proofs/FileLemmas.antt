-- A mesh that a file is read as has one sheet, whose names are leaves.
use Rattle.std.proofs.Common.{◌≡◌, ℕ, Bool, true, false, List, Option, sym, subst}
use Rattle.std.specs.List.{All}
use Rattle.viz_base.specs.declared.node.Pick.{Pick}
use Rattle.viz_column.specs.Numbers.{Numbers}
use Rattle.viz_dataset.specs.declared.dataset.Dataset.{Dataset}
use Rattle.viz_file_mesh.specs.FileMesh.{file_points, mesh_of}
use Rattle.viz_file_mesh.specs.GridPieces.{grid_pieces}
use Rattle.viz_file_mesh.proofs.MeshLemmas.{file_points-length}
use Rattle.viz_legacy_read.specs.File.{contents}
use Rattle.viz_legacy_read.specs.Header.{Heading}
use Rattle.viz_legacy_read.specs.Header.Heading.{OfImage, OfMesh}
use Rattle.viz_legacy_read.specs.MeshFile.{grid_behind, is_grid, poly_behind}
use Rattle.viz_legacy_read.specs.Reading.{Reads}
use Rattle.viz_lex.specs.Reading.{Reading}
use Rattle.viz_lex.specs.Rules.{Rule, choose}
use Rattle.viz_mesh_read.specs.Grid.{Grid, grid}
use Rattle.viz_mesh_read.specs.Pieces.{pieces_of}
use Rattle.viz_mesh_read.specs.Poly.{Poly, polydata}
use Rattle.viz_mesh_read.specs.declared.coordinates.FilePoints.{FilePoints}
use Rattle.viz_sheet.specs.Ranked.{IsCell}
use Rattle.viz_sheet.specs.Sheet.{SheetData}
use Rattle.viz_given.proofs.SheetLemmas.{
  AreLeveled,
  IsLeveled,
  TetrahedraAreLeveled,
  leaf_sheet,
  one_sheet,
}

-- the pieces of a grid that is read are cells
abbrev pub GridsHaveCells : Type 0
GridsHaveCells =
    (binary later : Bool) (old new : Reading) (g : Grid)
    → (grid binary later).is old new g → All (IsCell g.points.count) (grid_pieces g.cells)

-- those of polydata are
abbrev pub PolydataHaveCells : Type 0
PolydataHaveCells =
    (binary later : Bool) (old new : Reading) (p : Poly)
    → (polydata binary later).is old new p → All (IsCell p.points.count) (pieces_of p.cells)

mesh_leveled : (unit : ℕ) (points : FilePoints) (picked : Option Numbers) (pieces : List (List ℕ))
    → All (IsCell points.count) pieces → All IsLeveled (mesh_of unit points picked pieces)
mesh_leveled unit points picked pieces each =
    one_sheet _
    (leaf_sheet points.count (file_points unit points picked) pieces
    (file_points-length unit points picked) each)

-- what holds by either of two rules
by_either : {V : Type 0} (P : V → Type 0) (test : Bool) (a b : Rule V) (old new : Reading) (x : V)
    → (a.is old new x → P x) → (b.is old new x → P x) → (choose test a b).is old new x → P x
by_either P true a b old new x f g h = f h
by_either P false a b old new x f g h = g h

module _ (grids : GridsHaveCells) (polys : PolydataHaveCells) where
  grid_leveled : (unit : ℕ) (binary later : Bool) (old new : Reading) (g : Grid)
      (picked : Option Numbers) (sheets : List SheetData) → (grid binary later).is old new g
      → sheets ≡ mesh_of unit g.points picked (grid_pieces g.cells) → All IsLeveled sheets
  grid_leveled unit binary later old new g picked sheets h is =
      subst (All IsLeveled) (sym is)
      (mesh_leveled unit g.points picked (grid_pieces g.cells) (grids binary later old new g h))

  poly_leveled : (unit : ℕ) (binary later : Bool) (old new : Reading) (p : Poly)
      (picked : Option Numbers) (sheets : List SheetData) → (polydata binary later).is old new p
      → sheets ≡ mesh_of unit p.points picked (pieces_of p.cells) → All IsLeveled sheets
  poly_leveled unit binary later old new p picked sheets h is =
      subst (All IsLeveled) (sym is)
      (mesh_leveled unit p.points picked (pieces_of p.cells) (polys binary later old new p h))

  module _ (images : TetrahedraAreLeveled) where
    contents_leveled : (pick : Pick) (unit : ℕ) (h : Heading) (old new : Reading) (d : Dataset)
        → (contents pick unit h).is old new d → AreLeveled d
    contents_leveled pick unit (OfImage i) old new d h =
        subst AreLeveled (sym h.3.1) (one_sheet _ (images h.0))
    contents_leveled pick unit (OfMesh p) old new d h =
        subst AreLeveled (sym h.3.1)
        (by_either (All IsLeveled) (is_grid p) (grid_behind pick unit p)
        (poly_behind pick unit p) old h.1 h.0
        (λ g. grid_leveled unit p.binary p.later old g.1 g.0 g.3.0 h.0 g.2 g.3.3.1)
        (λ g. poly_leveled unit p.binary p.later old g.1 g.0 g.3.0 h.0 g.2 g.3.3.1) h.2)

    pub reads_leveled : (bytes : List ℕ) (pick : Pick) (unit : ℕ) (d : Dataset)
        → Reads bytes pick unit d → AreLeveled d
    reads_leveled bytes pick unit d h = contents_leveled pick unit h.1.0 h.1.1 h.0 d h.1.3
