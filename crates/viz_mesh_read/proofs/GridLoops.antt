-- Passing over FIELDs and reading types one after the other, as loops do.
use Rattle.std.proofs.Common.{◌≡◌, ℕ, zero, suc, ◌-◌, ◌+◌, ◌≤◌, ◌<◌, Bool, true, false, List, Result, Ok, Err, refl, sym, ◌∙◌, arith}
use Rattle.std.specs.Prelude.{codes}
use Rattle.viz_lex.specs.declared.fault.FileFault.{FileFault}
use Rattle.viz_lex.specs.Reading.{Reading}
use Rattle.viz_lex.specs.Steps.{is_next}
use Rattle.viz_lex.specs.Readers.{skip_at}
use Rattle.viz_counted_cells.specs.Numbered.{first_count, behind_first}
use Rattle.viz_mesh_read.specs.GridSteps.{one_field_at, fields_in_at, cell_type_at, cell_types_at}

abbrev pub Passed : Type 0
Passed = Result (Unit {0} × Reading) FileFault

pub fields-on : (binary : Bool) (most i : ℕ) (r after : Reading) (total : Passed) → i < most → is_next (codes "FIELD") r ≡ true → one_field_at binary r ≡ Ok (tt, after)
    → fields_in_at binary (most - i) r ≡ total → fields_in_at binary (most - (i + 1)) after ≡ total
unfolding fields_in_at skip_at
fields-on binary most i r after total lt field h so_far =
    let n : most - i ≡ suc (most - (i + 1)) = omega arith in
    let one : fields_in_at binary (most - i) r ≡ fields_in_at binary (most - (i + 1)) after = rw (n, field, h) refl in
    sym one ∙ so_far

pub fields-fault : (binary : Bool) (most i : ℕ) (r : Reading) (fault : FileFault) (total : Passed) → i < most → is_next (codes "FIELD") r ≡ true → one_field_at binary r ≡ Err fault
    → fields_in_at binary (most - i) r ≡ total → total ≡ Err fault
unfolding fields_in_at skip_at
fields-fault binary most i r fault total lt field h so_far =
    let n : most - i ≡ suc (most - (i + 1)) = omega arith in
    let one : fields_in_at binary (most - i) r ≡ Err fault = rw (n, field, h) refl in
    sym so_far ∙ one

pub fields-end : (binary : Bool) (n : ℕ) (r : Reading) (total : Passed) → is_next (codes "FIELD") r ≡ false → fields_in_at binary n r ≡ total → total ≡ Ok (tt, r)
unfolding fields_in_at skip_at
fields-end binary zero r total none so_far = sym so_far
fields-end binary (suc n) r total none so_far =
    let one : fields_in_at binary (suc n) r ≡ Ok (tt, r) = rw none refl in
    sym so_far ∙ one

pub fields-done : (binary : Bool) (most i : ℕ) (r : Reading) (total : Passed) → most ≤ i → fields_in_at binary (most - i) r ≡ total → total ≡ Ok (tt, r)
unfolding fields_in_at skip_at
fields-done binary most i r total le so_far =
    let n : most - i ≡ 0 = omega arith in
    let one : fields_in_at binary (most - i) r ≡ Ok (tt, r) = rw n refl in
    sym so_far ∙ one

-- ---- the types of cells

pub types-on : (binary : Bool) (size count i : ℕ) (numbers behind : List ℕ) (r after : Reading) (total : Passed) → i < count → size ≡ first_count numbers → behind ≡ behind_first numbers → cell_type_at binary size r ≡ Ok (tt, after)
    → cell_types_at binary (count - i) numbers r ≡ total → cell_types_at binary (count - (i + 1)) behind after ≡ total
unfolding cell_types_at
types-on binary size count i numbers behind r after total lt e b h so_far =
    let n : count - i ≡ suc (count - (i + 1)) = omega arith in
    let one : cell_types_at binary (count - i) numbers r ≡ cell_types_at binary (count - (i + 1)) (behind_first numbers) after = rw (n, ← e, h) refl in
    rw b (sym one ∙ so_far)

pub types-fault : (binary : Bool) (size count i : ℕ) (numbers : List ℕ) (r : Reading) (fault : FileFault) (total : Passed) → i < count → size ≡ first_count numbers → cell_type_at binary size r ≡ Err fault
    → cell_types_at binary (count - i) numbers r ≡ total → total ≡ Err fault
unfolding cell_types_at
types-fault binary size count i numbers r fault total lt e h so_far =
    let n : count - i ≡ suc (count - (i + 1)) = omega arith in
    let one : cell_types_at binary (count - i) numbers r ≡ Err fault = rw (n, ← e, h) refl in
    sym so_far ∙ one

pub types-done : (binary : Bool) (count i : ℕ) (numbers : List ℕ) (r : Reading) (total : Passed) → count ≤ i → cell_types_at binary (count - i) numbers r ≡ total → total ≡ Ok (tt, r)
unfolding cell_types_at
types-done binary count i numbers r total le so_far =
    let n : count - i ≡ 0 = omega arith in
    let one : cell_types_at binary (count - i) numbers r ≡ Ok (tt, r) = rw n refl in
    sym so_far ∙ one
