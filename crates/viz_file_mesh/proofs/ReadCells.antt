-- What a reader's answer tells of the points and the cells of a grid or of polydata, by their numbers.
use Rattle.std.proofs.Common.{◌≡◌, ℕ, Bool, List, length, sym, subst}
use Rattle.std.specs.Prelude.{Option, IfSome}
use Rattle.std.specs.List.{All}
use Rattle.viz_lex.specs.Reading.{Reading}
use Rattle.viz_column.specs.Numbers.{Numbers}
use Rattle.viz_mesh_read.specs.declared.coordinates.FilePoints.{FilePoints}
use Rattle.viz_mesh_read.specs.Points.{points}
use Rattle.viz_mesh_read.specs.Grid.{Grid, grid, grid_numbers}
use Rattle.viz_mesh_read.specs.Poly.{ByKind, Poly, polydata, polydata_numbers}
use Rattle.viz_mesh_read.specs.Pieces.{pieces_in}
use Rattle.viz_mesh_read.proofs.PointLaws.{points-sized}
use Rattle.viz_mesh_read.proofs.PieceLemmas.{pieces_in-list}
use Rattle.viz_sheet.specs.Ranked.{IsCell}
use Rattle.viz_file_mesh.specs.FileMesh.{ArePoints}
use Rattle.viz_file_mesh.specs.GridPieces.{grid_pieces_in}
use Rattle.viz_file_mesh.proofs.GridCells.{grid-cells, grid_pieces_in-list}
use Rattle.viz_file_mesh.proofs.PolyCells.{polydata-cells, points-few}

-- ---- points

pub read-points : (binary : Bool) (old new : Reading) (p : FilePoints) (picked : Option Numbers) → (points binary).is old new p → IfSome picked (λ n. length n.items ≡ p.count) → ArePoints p picked
read-points binary old new p picked h s = record { coordinates = points-sized binary old new p h; scalars = s; few = points-few binary old new p h }

pub grid-points : (binary later : Bool) (old new : Reading) (g : Grid) (picked : Option Numbers) → (grid binary later).is old new g → IfSome picked (λ n. length n.items ≡ g.points.count) → ArePoints g.points picked
grid-points binary later old new g picked h s =
    let made = h.3.3.3.3.3.3.3.1 in
    let same = subst (λ (k : Grid). IfSome picked (λ n. length n.items ≡ k.points.count)) made s in
    subst (λ (k : Grid). ArePoints k.points picked) (sym made) (read-points binary h.1 h.3.1 h.3.0 picked h.3.2 same)

pub polydata-points : (binary later : Bool) (old new : Reading) (p : Poly) (picked : Option Numbers) → (polydata binary later).is old new p → IfSome picked (λ n. length n.items ≡ p.points.count) → ArePoints p.points picked
polydata-points binary later old new p picked h s =
    let made = h.3.3.3.1 in
    let same = subst (λ (k : Poly). IfSome picked (λ n. length n.items ≡ k.points.count)) made s in
    subst (λ (k : Poly). ArePoints k.points picked) (sym made) (read-points binary h.1 h.3.1 h.3.0 picked h.3.2 same)

-- ---- by numbers

pub grid_numbers-cells : (binary later : Bool) (old new : Reading) (g : FilePoints × (ℕ × List ℕ)) → (grid_numbers binary later).is old new g → All (IsCell g.0.count) (grid_pieces_in g.1)
grid_numbers-cells binary later old new g h =
    subst (λ (k : FilePoints × (ℕ × List ℕ)). All (IsCell k.0.count) (grid_pieces_in k.1)) (sym h.3.1)
    (subst (All (IsCell h.0.points.count)) (sym (grid_pieces_in-list h.0.cells)) (grid-cells binary later old h.1 h.0 h.2))

pub grid_numbers-points : (binary later : Bool) (old new : Reading) (g : FilePoints × (ℕ × List ℕ)) (picked : Option Numbers) → (grid_numbers binary later).is old new g → IfSome picked (λ n. length n.items ≡ g.0.count) → ArePoints g.0 picked
grid_numbers-points binary later old new g picked h s =
    let same = subst (λ (k : FilePoints × (ℕ × List ℕ)). IfSome picked (λ n. length n.items ≡ k.0.count)) h.3.1 s in
    subst (λ (k : FilePoints × (ℕ × List ℕ)). ArePoints k.0 picked) (sym h.3.1) (grid-points binary later old h.1 h.0 picked h.2 same)

pub polydata_numbers-cells : (binary later : Bool) (old new : Reading) (p : FilePoints × ByKind (ℕ × List ℕ)) → (polydata_numbers binary later).is old new p → All (IsCell p.0.count) (pieces_in p.1)
polydata_numbers-cells binary later old new p h =
    subst (λ (k : FilePoints × ByKind (ℕ × List ℕ)). All (IsCell k.0.count) (pieces_in k.1)) (sym h.3.1)
    (subst (All (IsCell h.0.points.count)) (sym (pieces_in-list h.0.cells)) (polydata-cells binary later old h.1 h.0 h.2))

pub polydata_numbers-points : (binary later : Bool) (old new : Reading) (p : FilePoints × ByKind (ℕ × List ℕ)) (picked : Option Numbers) → (polydata_numbers binary later).is old new p → IfSome picked (λ n. length n.items ≡ p.0.count) → ArePoints p.0 picked
polydata_numbers-points binary later old new p picked h s =
    let same = subst (λ (k : FilePoints × ByKind (ℕ × List ℕ)). IfSome picked (λ n. length n.items ≡ k.0.count)) h.3.1 s in
    subst (λ (k : FilePoints × ByKind (ℕ × List ℕ)). ArePoints k.0 picked) (sym h.3.1) (polydata-points binary later old h.1 h.0 picked h.2 same)
