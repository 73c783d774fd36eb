-- Reading numbers and cells one after the other, as loops do.
use Rattle.std.proofs.Common.{◌≡◌, ℕ, suc, ◌-◌, ◌+◌, ◌≤◌, ◌<◌, Bool, List, [], ◌∷◌, ◌++◌, length, Result, Ok, Err, refl, sym, ap, ◌∙◌, append_assoc, arith}
use Rattle.std.proofs.lemmas.List.{append-nil}
use Rattle.viz_lex.specs.declared.fault.FileFault.{FileFault}
use Rattle.viz_lex.specs.Reading.{Reading, ◌>>=◌}
use Rattle.viz_lex.specs.Readers.{times_at}
use Rattle.viz_attr.specs.declared.stop.AttrStop.{AttrStop}
use Rattle.viz_attr.specs.declared.stop.AttrStop.TheVariants.{File, Memory}
use Rattle.viz_attr.specs.Reads.{Stops}
use Rattle.viz_counted_cells.specs.Steps.{index_at, indices_at, cell_at, cells_at}

-- ---- the numbers of an array

-- what was read before, and what is still read
abbrev pub with_front : {V : Type 0} → List V → Result (List V × Reading) FileFault → Result (List V × Reading) FileFault
with_front front read = read >>= λ x. Ok (front ++ x.0, x.1)

pub regroup : {V : Type 0} (front : List V) (n : V) (read : Result (List V × Reading) FileFault) → with_front front (read >>= λ x. Ok (n ∷ x.0, x.1)) ≡ with_front (front ++ n ∷ []) read
regroup {V = V} front n (Ok x) = ap (λ (ns : List V). Ok (ns, x.1)) (simp append_assoc)
regroup front n (Err f) = refl

pub times-on : {V : Type 0} (read : Reading → Result (V × Reading) FileFault) (front : List V) (count i : ℕ) (r : Reading) (n : V) (after : Reading) (total : Result (List V × Reading) FileFault) → i < count → read r ≡ Ok (n, after)
    → with_front front (times_at read (count - i) r) ≡ total → with_front (front ++ n ∷ []) (times_at read (count - (i + 1)) after) ≡ total
times-on {V = V} read front count i r n after total lt h so_far =
    let k : count - i ≡ suc (count - (i + 1)) = omega arith in
    let one : with_front front (times_at read (count - i) r) ≡ with_front (front ++ n ∷ []) (times_at read (count - (i + 1)) after) = rw (k, h) (regroup front n (times_at read (count - (i + 1)) after)) in
    sym one ∙ so_far

pub times-fault : {V : Type 0} (read : Reading → Result (V × Reading) FileFault) (stop : AttrStop) (fault : FileFault) (front : List V) (count i : ℕ) (r : Reading) (total : Result (List V × Reading) FileFault) → i < count → stop ≡ File fault → read r ≡ Err fault
    → with_front front (times_at read (count - i) r) ≡ total → Stops stop total
times-fault read stop fault front count i r total lt is h so_far =
    let k : count - i ≡ suc (count - (i + 1)) = omega arith in
    let one : with_front front (times_at read (count - i) r) ≡ Err fault = rw (k, h) refl in
    let all : total ≡ Err fault = sym so_far ∙ one in
    rw is all

pub times-done : {V : Type 0} (read : Reading → Result (V × Reading) FileFault) (front : List V) (count i : ℕ) (r : Reading) (total : Result (List V × Reading) FileFault) → count ≤ i → with_front front (times_at read (count - i) r) ≡ total → total ≡ Ok (front, r)
times-done {V = V} read front count i r total le so_far =
    let k : count - i ≡ 0 = omega arith in
    let one : with_front front (times_at read (count - i) r) ≡ Ok (front, r) = rw k (ap (λ (ns : List V). Ok (ns, r)) (append-nil front)) in
    sym so_far ∙ one

-- ---- the indices of a cell

-- numbers that were read, and the place behind them
abbrev pub Numbered : Type 0
Numbered = Result (List ℕ × Reading) FileFault

pub indices-on : (binary : Bool) (points count i : ℕ) (numbers : List ℕ) (r : Reading) (n : ℕ) (after : Reading) (total : Numbered) → i < count → index_at binary points r ≡ Ok (n, after)
    → indices_at binary points (count - i) numbers r ≡ total → indices_at binary points (count - (i + 1)) (numbers ++ n ∷ []) after ≡ total
unfolding indices_at
indices-on binary points count i numbers r n after total lt h so_far =
    let k : count - i ≡ suc (count - (i + 1)) = omega arith in
    let one : indices_at binary points (count - i) numbers r ≡ indices_at binary points (count - (i + 1)) (numbers ++ n ∷ []) after = rw (k, h) refl in
    sym one ∙ so_far

pub indices-fault : (binary : Bool) (points : ℕ) (stop : AttrStop) (fault : FileFault) (count i : ℕ) (numbers : List ℕ) (r : Reading) (total : Numbered) → i < count → stop ≡ File fault → index_at binary points r ≡ Err fault
    → indices_at binary points (count - i) numbers r ≡ total → Stops stop total
unfolding indices_at
indices-fault binary points stop fault count i numbers r total lt is h so_far =
    let k : count - i ≡ suc (count - (i + 1)) = omega arith in
    let one : indices_at binary points (count - i) numbers r ≡ Err fault = rw (k, h) refl in
    let all : total ≡ Err fault = sym so_far ∙ one in
    rw is all

pub indices-done : (binary : Bool) (points count i : ℕ) (numbers : List ℕ) (r : Reading) (total : Numbered) → count ≤ i → indices_at binary points (count - i) numbers r ≡ total → total ≡ Ok (numbers, r)
unfolding indices_at
indices-done binary points count i numbers r total le so_far =
    let k : count - i ≡ 0 = omega arith in
    let one : indices_at binary points (count - i) numbers r ≡ Ok (numbers, r) = rw k refl in
    sym so_far ∙ one

-- ---- the cells of a section

pub cells-on : (binary : Bool) (points size left count i : ℕ) (numbers more : List ℕ) (r after : Reading) (total : Numbered) → i < count → left ≡ size - length numbers → cell_at binary points (count - i) left numbers r ≡ Ok (more, after)
    → cells_at binary points size (count - i) numbers r ≡ total → cells_at binary points size (count - (i + 1)) more after ≡ total
unfolding cells_at
cells-on binary points size left count i numbers more r after total lt e h so_far =
    let k : count - i ≡ suc (count - (i + 1)) = omega arith in
    let here : cell_at binary points (suc (count - (i + 1))) (size - length numbers) numbers r ≡ Ok (more, after) = rw (← k, ← e) h in
    let one : cells_at binary points size (count - i) numbers r ≡ cells_at binary points size (count - (i + 1)) more after = rw (k, here) refl in
    sym one ∙ so_far

pub cells-stop : (binary : Bool) (points size left : ℕ) (stop : AttrStop) (count i : ℕ) (numbers : List ℕ) (r : Reading) (total : Numbered) → i < count → left ≡ size - length numbers → Stops stop (cell_at binary points (count - i) left numbers r)
    → cells_at binary points size (count - i) numbers r ≡ total → Stops stop total
unfolding cells_at
cells-stop binary points size left (File fault) count i numbers r total lt e h so_far =
    let k : count - i ≡ suc (count - (i + 1)) = omega arith in
    let here : cell_at binary points (suc (count - (i + 1))) (size - length numbers) numbers r ≡ Err fault = rw (← k, ← e) h in
    let one : cells_at binary points size (count - i) numbers r ≡ Err fault = rw (k, here) refl in
    sym so_far ∙ one
cells-stop binary points size left Memory count i numbers r total lt e h so_far = tt

pub cells-done : (binary : Bool) (points size count i : ℕ) (numbers : List ℕ) (r : Reading) (total : Numbered) → count ≤ i → cells_at binary points size (count - i) numbers r ≡ total → total ≡ Ok (numbers, r)
unfolding cells_at
cells-done binary points size count i numbers r total le so_far =
    let k : count - i ≡ 0 = omega arith in
    let one : cells_at binary points size (count - i) numbers r ≡ Ok (numbers, r) = rw k refl in
    sym so_far ∙ one
