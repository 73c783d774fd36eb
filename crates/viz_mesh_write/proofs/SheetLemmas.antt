-- The cells of sheets by ranks are those of the mesh.
use Rattle.std.proofs.Common.{◌≡◌, ℕ, ◌+◌, List, [], ◌∷◌, ◌++◌, length, map, refl, sym, ap, ap₂, ◌∙◌}
use Rattle.std.proofs.lemmas.List.{length-append}
use Rattle.viz_sheet.specs.Sheet.{SheetData}
use Rattle.viz_sheet.specs.Ranked.{ranks_of}
use Rattle.viz_mesh_write.specs.Cells.{moved, points_of, cells_from, cells_of}
use Rattle.viz_mesh_write.specs.Steps.SheetCells.{CellsData, cells_in, total_points, points_by, indices_from, indices_by}
use Rattle.viz_mesh_write.specs.Steps.Tallies.{IsReady, AreCounted}
use Rattle.viz_mesh_write.specs.declared.tally.Tally.{Tally}
use Rattle.viz_mesh_write.proofs.TallyLemmas.{cells_sized}

moved_are : (first : ℕ) (names : List (List ℕ)) (cells : List (List (List ℕ))) → map (moved first) (map (ranks_of names) cells) ≡ map (λ cell. moved first (ranks_of names cell)) cells
moved_are first names [] = refl
moved_are first names (c ∷ cells) = ap (λ (cs : List (List ℕ)). moved first (ranks_of names c) ∷ cs) (moved_are first names cells)

indices_are : (first : ℕ) (sheets : List SheetData) → indices_from first (map cells_in sheets) ≡ cells_from first sheets
indices_are first [] = refl
indices_are first (s ∷ sheets) =
    ap₂ (λ (a b : List (List ℕ)). a ++ b) (moved_are first s.names s.cells) (indices_are (first + length s.points) sheets)

-- the cells of a sheet that is given up are those of the sheet
pub own_are : (s : SheetData) (own : CellsData) → own.points ≡ length s.points → own.cells ≡ map (ranks_of s.names) s.cells → own ≡ cells_in s
own_are s own e f =
    let made : ℕ → List (List ℕ) → CellsData = λ n cs. record { points = n; cells = cs } in
    ap₂ made e f

-- the cells by indices
pub cells_again : (sheets : List SheetData) → indices_by cells_in sheets ≡ cells_of sheets
cells_again sheets = indices_are 0 sheets

-- how many points there are
pub points_again : (sheets : List SheetData) → points_by cells_in sheets ≡ length (points_of sheets)
points_again [] = refl
points_again (s ∷ sheets) =
    ap (λ (n : ℕ). length s.points + n) (points_again sheets) ∙ sym (length-append s.points (points_of sheets))

same_again : (own : List CellsData) → map (λ s. s) own ≡ own
same_again [] = refl
same_again (s ∷ own) = ap (λ (rest : List CellsData). s ∷ rest) (same_again own)

-- the same of cells whose sheets are given up
pub own_cells_again : (own : List CellsData) (sheets : List SheetData) → own ≡ map cells_in sheets → indices_by (λ s. s) own ≡ cells_of sheets
own_cells_again own sheets e = ap (indices_from 0) (same_again own ∙ e) ∙ cells_again sheets

pub own_points_again : (own : List CellsData) (sheets : List SheetData) → own ≡ map cells_in sheets → points_by (λ s. s) own ≡ length (points_of sheets)
own_points_again own sheets e = ap total_points (same_again own ∙ e) ∙ points_again sheets

-- sheets that may be written have cells that may
pub counted_again : (sheets : List SheetData) (t : Tally) → IsReady sheets t → AreCounted (cells_of sheets) t
counted_again sheets t is = record {
  sized = cells_sized 0 sheets is.known;
  vertices = is.counts.vertices;
  lines = is.counts.lines;
  triangles = is.counts.triangles;
  tetrahedra = is.counts.tetrahedra;
  small = is.small;
  sections = is.sections;
}
