-- Reading values one after the other, as loops do.
use Rattle.std.proofs.Common.{◌≡◌, ℕ, ℤ, suc, ◌-◌, ◌+◌, ◌≤◌, ◌<◌, List, [], ◌∷◌, ◌++◌, Result, Ok, Err, refl, sym, ap, ◌∙◌, append_assoc, arith}
use Rattle.std.proofs.lemmas.List.{append-nil}
use Rattle.viz_lex.specs.declared.fault.FileFault.{FileFault}
use Rattle.viz_lex.specs.Reading.{Reading, ◌>>=◌}
use Rattle.viz_lex.specs.Readers.{times_at}
use Rattle.viz_column.specs.declared.kind.Kind8.{Kind8}
use Rattle.viz_attr.specs.declared.stop.AttrStop.{AttrStop}
use Rattle.viz_attr.specs.declared.stop.AttrStop.TheVariants.{File}
use Rattle.viz_attr.specs.Reads.{Stops}
use Rattle.viz_attr.specs.Steps.{value_at, others_at, tuple_at, tuples_at}

-- ---- values of which none is kept

pub others-on : (kind : Kind8) (count i : ℕ) (r after : Reading) (n : ℤ) (total : Result (Unit {0} × Reading) FileFault) → i < count → value_at kind r ≡ Ok (n, after)
    → others_at kind (count - i) r ≡ total → others_at kind (count - (i + 1)) after ≡ total
unfolding others_at
others-on kind count i r after n total lt h so_far =
    let k : count - i ≡ suc (count - (i + 1)) = omega arith in
    let one : others_at kind (count - i) r ≡ others_at kind (count - (i + 1)) after = rw (k, h) refl in
    sym one ∙ so_far

pub others-fault : (kind : Kind8) (count i : ℕ) (r : Reading) (fault : FileFault) (total : Result (Unit {0} × Reading) FileFault) → i < count → value_at kind r ≡ Err fault
    → others_at kind (count - i) r ≡ total → total ≡ Err fault
unfolding others_at
others-fault kind count i r fault total lt h so_far =
    let k : count - i ≡ suc (count - (i + 1)) = omega arith in
    let one : others_at kind (count - i) r ≡ Err fault = rw (k, h) refl in
    sym so_far ∙ one

pub others-done : (kind : Kind8) (count i : ℕ) (r : Reading) (total : Result (Unit {0} × Reading) FileFault) → count ≤ i → others_at kind (count - i) r ≡ total → total ≡ Ok (tt, r)
unfolding others_at
others-done kind count i r total le so_far =
    let k : count - i ≡ 0 = omega arith in
    let one : others_at kind (count - i) r ≡ Ok (tt, r) = rw k refl in
    sym so_far ∙ one

-- ---- tuples, of which the first values are kept

-- what was read before, and what is still read
abbrev pub with_front : List ℤ → Result (List ℤ × Reading) FileFault → Result (List ℤ × Reading) FileFault
with_front front read = read >>= λ x. Ok (front ++ x.0, x.1)

regroup : (front : List ℤ) (n : ℤ) (read : Result (List ℤ × Reading) FileFault) → with_front front (read >>= λ x. Ok (n ∷ x.0, x.1)) ≡ with_front (front ++ n ∷ []) read
regroup front n (Ok x) = ap (λ (ns : List ℤ). Ok (ns, x.1)) (simp append_assoc)
regroup front n (Err f) = refl

pub goes_on : (kind : Kind8) (c : ℕ) (front : List ℤ) (count i : ℕ) (r : Reading) (n : ℤ) (after : Reading) (total : Result (List ℤ × Reading) FileFault) → i < count → tuple_at kind c r ≡ Ok (n, after)
    → with_front front (tuples_at kind c (count - i) r) ≡ total → with_front (front ++ n ∷ []) (tuples_at kind c (count - (i + 1)) after) ≡ total
unfolding tuples_at
goes_on kind c front count i r n after total lt h so_far =
    let k : count - i ≡ suc (count - (i + 1)) = omega arith in
    let one : with_front front (tuples_at kind c (count - i) r) ≡ with_front (front ++ n ∷ []) (tuples_at kind c (count - (i + 1)) after) = rw (k, h) (regroup front n (tuples_at kind c (count - (i + 1)) after)) in
    sym one ∙ so_far

pub ends : (kind : Kind8) (c : ℕ) (stop : AttrStop) (fault : FileFault) (front : List ℤ) (count i : ℕ) (r : Reading) (total : Result (List ℤ × Reading) FileFault) → i < count → stop ≡ File fault → tuple_at kind c r ≡ Err fault
    → with_front front (tuples_at kind c (count - i) r) ≡ total → Stops stop total
unfolding tuples_at
ends kind c stop fault front count i r total lt is h so_far =
    let k : count - i ≡ suc (count - (i + 1)) = omega arith in
    let one : with_front front (tuples_at kind c (count - i) r) ≡ Err fault = rw (k, h) refl in
    let all : total ≡ Err fault = sym so_far ∙ one in
    rw is all

pub is_done : (kind : Kind8) (c : ℕ) (front : List ℤ) (count i : ℕ) (r : Reading) (total : Result (List ℤ × Reading) FileFault) → count ≤ i → with_front front (tuples_at kind c (count - i) r) ≡ total → total ≡ Ok (front, r)
unfolding tuples_at
is_done kind c front count i r total le so_far =
    let k : count - i ≡ 0 = omega arith in
    let one : with_front front (tuples_at kind c (count - i) r) ≡ Ok (front, r) = rw k (ap (λ (ns : List ℤ). Ok (ns, r)) (append-nil front)) in
    sym so_far ∙ one
