-- Reading parts one after the other, as loops do.
use Rattle.std.proofs.Common.{◌≡◌, ℕ, suc, ◌-◌, ◌+◌, ◌≤◌, ◌<◌, zero, Bool, true, false, Result, Ok, Err, refl, sym, ap, ◌∙◌, arith}
use Rattle.viz_lex.specs.declared.fault.FileFault.{FileFault}
use Rattle.viz_lex.specs.Reading.{Reading, ◌>>=◌}
use Rattle.viz_lex.specs.Words.{word_at}
use Rattle.viz_lex.specs.Steps.{has}
use Rattle.viz_attr.specs.declared.parts.Association.{Association}
use Rattle.viz_attr.specs.declared.stop.AttrStop.{AttrStop}
use Rattle.viz_attr.specs.declared.stop.AttrStop.TheVariants.{File, Memory}
use Rattle.viz_attr.specs.Picks.{Given}
use Rattle.viz_attr.specs.Steps.{Known, behind_part, field_array_at, field_arrays_at, part_at, parts_at}
use Rattle.viz_attr.specs.Reads.{Stops}

-- what is known behind some parts
abbrev pub Progressed : Type 0
Progressed = Result (Known × Reading) FileFault

-- ---- the arrays of a FIELD

pub field-on : (g : Given) (k later : Known) (which : Association) (first : Bool) (count i : ℕ) (r after : Reading) (total : Progressed) → i < count
    → behind_part g k (field_array_at g k which first r) ≡ Ok (later, after)
    → field_arrays_at g k which first (count - i) r ≡ total → field_arrays_at g later which false (count - (i + 1)) after ≡ total
unfolding field_arrays_at
field-on g k later which first count i r after total lt h so_far =
    let n : count - i ≡ suc (count - (i + 1)) = omega arith in
    let one : field_arrays_at g k which first (count - i) r ≡ field_arrays_at g later which false (count - (i + 1)) after = rw (n, h) refl in
    sym one ∙ so_far

pub field-fault : (g : Given) (k : Known) (which : Association) (first : Bool) (count i : ℕ) (r : Reading) (stop : AttrStop) (total : Progressed) → i < count
    → Stops stop (behind_part g k (field_array_at g k which first r))
    → field_arrays_at g k which first (count - i) r ≡ total → Stops stop total
unfolding field_arrays_at
field-fault g k which first count i r (File fault) total lt h so_far =
    let n : count - i ≡ suc (count - (i + 1)) = omega arith in
    let one : field_arrays_at g k which first (count - i) r ≡ Err fault = rw (n, h) refl in
    sym so_far ∙ one
field-fault g k which first count i r Memory total lt h so_far = tt

pub field-done : (g : Given) (k : Known) (which : Association) (first : Bool) (count i : ℕ) (r : Reading) (total : Progressed) → count ≤ i
    → field_arrays_at g k which first (count - i) r ≡ total → total ≡ Ok (k, r)
unfolding field_arrays_at
field-done g k which first count i r total le so_far =
    let n : count - i ≡ 0 = omega arith in
    let one : field_arrays_at g k which first (count - i) r ≡ Ok (k, r) = rw n refl in
    sym so_far ∙ one

-- ---- all parts

pub parts-on : (g : Given) (k later : Known) (most i : ℕ) (r after : Reading) (total : Progressed) → i < most → has (word_at r) ≡ true → part_at g k r ≡ Ok (later, after)
    → parts_at g k (most - i) r ≡ total → parts_at g later (most - (i + 1)) after ≡ total
unfolding parts_at
parts-on g k later most i r after total lt word h so_far =
    let n : most - i ≡ suc (most - (i + 1)) = omega arith in
    let one : parts_at g k (most - i) r ≡ parts_at g later (most - (i + 1)) after = rw (n, word, h) refl in
    sym one ∙ so_far

pub parts-fault : (g : Given) (k : Known) (most i : ℕ) (r : Reading) (stop : AttrStop) (total : Progressed) → i < most → has (word_at r) ≡ true → Stops stop (part_at g k r)
    → parts_at g k (most - i) r ≡ total → Stops stop total
unfolding parts_at
parts-fault g k most i r (File fault) total lt word h so_far =
    let n : most - i ≡ suc (most - (i + 1)) = omega arith in
    let one : parts_at g k (most - i) r ≡ Err fault = rw (n, word, h) refl in
    sym so_far ∙ one
parts-fault g k most i r Memory total lt word h so_far = tt

pub parts-end : (g : Given) (k : Known) (n : ℕ) (r : Reading) (total : Progressed) → has (word_at r) ≡ false → parts_at g k n r ≡ total → total ≡ Ok (k, r)
unfolding parts_at
parts-end g k zero r total none so_far = sym so_far
parts-end g k (suc n) r total none so_far =
    let one : parts_at g k (suc n) r ≡ Ok (k, r) = rw none refl in
    sym so_far ∙ one

pub parts-done : (g : Given) (k : Known) (most i : ℕ) (r : Reading) (total : Progressed) → most ≤ i → parts_at g k (most - i) r ≡ total → total ≡ Ok (k, r)
unfolding parts_at
parts-done g k most i r total le so_far =
    let n : most - i ≡ 0 = omega arith in
    let one : parts_at g k (most - i) r ≡ Ok (k, r) = rw n refl in
    sym so_far ∙ one
