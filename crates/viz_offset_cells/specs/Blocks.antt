-- Offsets and indices of 64 bits each by their bytes, which proofs compare with the readers
-- (docs/FORMATS-OF-FILES.md, "Sections of version 5.1").
use Rattle.std.specs.Prelude.{◌≡◌, ◌≤◌, ◌<◌, ℕ, zero, suc, ◌+◌, ◌*◌, true, List, [], ◌∷◌, length}
use Rattle.std.specs.Prelude.{drop, Ok}
use Rattle.byteorder.specs.Endian.{big_number}
use Rattle.viz_column.specs.declared.kind.Kind8.{Kind8}
use Rattle.viz_column.specs.Kinds.{size_of}
use Rattle.viz_lex.specs.Reading.{Reading, rest_of, advanced}
use Rattle.viz_lex.specs.Readers.{known_at}
use Rattle.viz_offset_cells.specs.declared.cuts.Cuts.{Cuts}
use Rattle.viz_offset_cells.specs.declared.cuts.Cuts.TheVariants.{Steps, Listed}
use Rattle.viz_offset_cells.specs.Steps.{offset_at, run_at, runs_at, all_runs_at}

-- so many offsets from the first on, each a step behind the one before
abbrev pub steps_from : ℕ → ℕ → ℕ → List ℕ
steps_from first step zero = []
steps_from first step (suc n) = first ∷ steps_from (first + step) step n

-- the offsets of cells, as the code holds them
abbrev pub cuts_of : Cuts → List ℕ
cuts_of (Steps step cells) = steps_from 0 step (suc cells)
cuts_of (Listed offsets) = offsets.items

-- so many offsets stand in front of the bytes, each a step behind the one before
abbrev pub AreStepsIn : ℕ → ℕ → ℕ → List ℕ → Type 0
AreStepsIn first step zero bytes = Unit {0}
AreStepsIn first step (suc n) bytes =
    (big_number 8 bytes ≡ first) × AreStepsIn (first + step) step n (drop 8 bytes)

-- indices of points stand in front of the bytes, one after the other
abbrev pub AreIndicesIn : ℕ → List ℕ → List ℕ → Type 0
AreIndicesIn points [] bytes = Unit {0}
AreIndicesIn points (i ∷ indices) bytes =
    (big_number 8 bytes ≡ i) × (i < points) × AreIndicesIn points indices (drop 8 bytes)

-- a cell of so many indices stands in front of the bytes
pub record IsCellIn (points size : ℕ) (indices bytes : List ℕ) : Type 0 where
  pub long : length indices ≡ size
  pub room : 8 * size ≤ length bytes
  pub each : AreIndicesIn points indices bytes

-- cells of so many indices each stand in front of the bytes, one after the other
abbrev pub AreCellsIn : {C : Type 0} → (C → List ℕ) → ℕ → ℕ → List C → List ℕ → Type 0
AreCellsIn list points size [] bytes = Unit {0}
AreCellsIn list points size (cell ∷ cells) bytes =
    IsCellIn points size (list cell) bytes × AreCellsIn list points size cells (drop (8 * size) bytes)

-- so many indices of points stand in front of the bytes, and these are the numbers with them
abbrev pub IsRunIn : ℕ → ℕ → List ℕ → List ℕ → List ℕ → Type 0
IsRunIn points count before numbers bytes =
    (kind : Kind8) (r : Reading) → size_of kind ≡ 8 → bytes ≡ rest_of r
    → run_at true kind points count before r ≡ Ok (numbers, advanced r (8 * count))

-- cells between offsets stand in front of the bytes, and these are the numbers with them
abbrev pub AreRunsIn : ℕ → List ℕ → ℕ → List ℕ → List ℕ → List ℕ → Type 0
AreRunsIn points offsets indices before numbers bytes =
    (kind : Kind8) (r : Reading) → size_of kind ≡ 8 → bytes ≡ rest_of r
    → runs_at true kind points 0 offsets before r ≡ Ok (numbers, advanced r (8 * indices))

-- so many offsets into so many indices are next, each a step behind the one before
pub record AreStepsNext (kind : Kind8) (step most indices : ℕ) (r : Reading) : Type 0 where
  pub read : known_at (offset_at true kind most indices) most [] r
      ≡ Ok (steps_from 0 step most, advanced r (8 * most))
  pub room : 8 * most ≤ length (rest_of r)
  pub some : 0 < most

-- so many indices are next, and these are the numbers of the cells between offsets
pub record AreRunsNext (kind : Kind8) (points : ℕ) (offsets : List ℕ) (indices : ℕ)
    (numbers : List ℕ) (r : Reading) : Type 0 where
  pub read : all_runs_at true kind points offsets r ≡ Ok (numbers, advanced r (8 * indices))
  pub room : 8 * indices ≤ length (rest_of r)
