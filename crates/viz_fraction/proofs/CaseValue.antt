-- The table in the code has the rows of the definition.
use Rattle.std.proofs.Common.{◌≡◌, ℕ, ◌-◌, List, slice_index_or, refl}
use Rattle.viz_fraction.specs.declared.case_table.Case.{Case}
use Rattle.viz_fraction.specs.declared.case_table.TheConstants.{ROWS, PLACES}
use Rattle.viz_fraction.specs.Cases.{IsCase, case_at, cells_at}
use Rattle.viz_fraction.proofs.CaseTable.{each_case}

-- the row of a mask in the code's table, with what is read past the end of each list
abbrev row_at : List ℕ → ℕ → ℕ × List (List ℕ) → ℕ → ℕ → ℕ × List (List ℕ)
row_at places place row corners mask =
    slice_index_or ROWS (slice_index_or (slice_index_or PLACES (corners - 1) places) mask place) row

-- that row with the size of its cells
abbrev case_in_code : List ℕ → ℕ → ℕ × List (List ℕ) → ℕ → ℕ → Case
case_in_code places place row corners mask =
    let r = row_at places place row corners mask in
    record { count = r.0; size = corners - 1; ends = r.1 }

pub case_in_code-case_at : (places : List ℕ) (place : ℕ) (row : ℕ × List (List ℕ)) (corners mask : ℕ)
    → IsCase corners mask → case_in_code places place row corners mask ≡ case_at corners mask
unfolding case_at cells_at
case_in_code-case_at places place row =
    each_case (λ c m. case_in_code places place row c m ≡ case_at c m)
    (refl, (refl, tt))
    (refl, (refl, (refl, (refl, tt))))
    (refl, (refl, (refl, (refl, (refl, (refl, (refl, (refl, tt))))))))
    (refl, (refl, (refl, (refl, (refl, (refl, (refl, (refl, (refl, (refl, (refl, (refl, (refl, (refl, (refl, (refl, tt))))))))))))))))
