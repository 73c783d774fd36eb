-- Counts that fit, and what a sheet's cells and points are in a mesh of it alone.
use Rattle.std.proofs.Common.{◌≡◌, ℕ, ◌+◌, ◌*◌, ◌^◌, ◌<◌, ◌≤◌, List, [], ◌∷◌, length, map, refl, sym, ap₂, subst, ◌∙◌, append-nil, arith}
use Rattle.viz_sheet.specs.Sheet.{SheetData}
use Rattle.viz_sheet.specs.Ranked.{ranks_of}
use Rattle.viz_mesh_write.specs.Cells.{cells_of, moved, of_size, points_of}
use Rattle.viz_mesh_write.specs.MeshText.{size_of}
use Rattle.viz_mesh_write.proofs.TallyLemmas.{size_of_size}
use Rattle.viz_strip.specs.Strips.{AreStrips}
use Rattle.viz_strip.proofs.OneLemmas.{strips-one}
use Rattle.viz_strip_write.specs.FitStrips.{FitCells, FitCounts}

pub fit-strips : (points : ℕ) (cells rows : List (List ℕ)) → FitCells points cells → AreStrips (of_size 3 cells) rows → size_of rows < 2 ^ 31 → FitCounts points cells
fit-strips points cells rows f are few =
    record {
      few = f.points_few;
      vertices = f.vertices;
      lines = f.lines;
      strips = λ strips a. subst (λ (x : List (List ℕ)). size_of x < 2 ^ 31) (strips-one (of_size 3 cells) rows strips are a) few;
    }

pub too-large : (points : ℕ) (cells rows : List (List ℕ)) → AreStrips (of_size 3 cells) rows → 2 ^ 31 ≤ size_of rows → FitCounts points cells → ⊥
too-large points cells rows are big f = let few = f.strips rows are in omega (arith, few, big)

pub cells-fit : (points : ℕ) (cells : List (List ℕ)) → FitCounts points cells → FitCells points cells
cells-fit points cells f = record { points_few = f.few; vertices = f.vertices; lines = f.lines }

-- the counts tell whether the cells may be written
pub few-fit : (points v l : ℕ) (cells : List (List ℕ)) → v ≡ length (of_size 1 cells) → l ≡ length (of_size 2 cells) → points < 2 ^ 31 → 2 * v < 2 ^ 31 → 3 * l < 2 ^ 31 → FitCells points cells
few-fit points v l cells a b p q r =
    record { points_few = p; vertices = omega (arith, size_of_size 1 cells, a, q); lines = omega (arith, size_of_size 2 cells, b, r) }

pub fit-few : (points v l : ℕ) (cells : List (List ℕ)) → v ≡ length (of_size 1 cells) → l ≡ length (of_size 2 cells) → FitCells points cells → (points < 2 ^ 31) × ((2 * v < 2 ^ 31) × (3 * l < 2 ^ 31))
fit-few points v l cells a b f =
    (f.points_few, (omega (arith, size_of_size 1 cells, a, f.vertices), omega (arith, size_of_size 2 cells, b, f.lines)))

-- ---- a mesh of one sheet

unmoved : (cell : List ℕ) → moved 0 cell ≡ cell
unmoved [] = refl
unmoved (r ∷ cell) = ap₂ (λ (x : ℕ) (xs : List ℕ). x ∷ xs) {x = 0 + r} {y = r} (omega arith) (unmoved cell)

all-unmoved : (names : List (List ℕ)) (cells : List (List (List ℕ))) → map (λ cell. moved 0 (ranks_of names cell)) cells ≡ map (ranks_of names) cells
all-unmoved names [] = refl
all-unmoved names (c ∷ cells) = ap₂ (λ (x : List ℕ) (xs : List (List ℕ)). x ∷ xs) (unmoved (ranks_of names c)) (all-unmoved names cells)

pub cells-alone : (s : SheetData) → map (ranks_of s.names) s.cells ≡ cells_of (s ∷ [])
cells-alone s = sym (append-nil (map (λ cell. moved 0 (ranks_of s.names cell)) s.cells) ∙ all-unmoved s.names s.cells)

pub points-alone : (s : SheetData) → s.points ≡ points_of (s ∷ [])
points-alone s = sym (append-nil s.points)
