-- Reading so many, one after the other, as loops do.
use Rattle.std.proofs.Common.{◌≡◌, ℕ, zero, suc, ◌-◌, ◌+◌, ◌≤◌, ◌<◌, List, [], ◌∷◌, ◌++◌, length, Result, Ok, Err, refl, sym, ap, ◌∙◌, subst, arith, add-one, Bool, slice_index_or}
use Rattle.std.specs.Prelude.{drop}
use Rattle.std.proofs.lemmas.List.{drop_all}
use Rattle.viz_column.specs.declared.kind.Kind8.{Kind8}
use Rattle.viz_lex.specs.declared.fault.FileFault.{FileFault}
use Rattle.viz_lex.specs.Reading.{Reading, ◌>>=◌}
use Rattle.viz_lex.specs.Readers.{known_at}
use Rattle.viz_attr.specs.declared.stop.AttrStop.{AttrStop}
use Rattle.viz_attr.specs.declared.stop.AttrStop.TheVariants.{File, Memory}
use Rattle.viz_attr.specs.Reads.{Stops}
use Rattle.viz_offset_cells.specs.Steps.{run_at, runs_at, AreCuts}

pub known-on : {V : Type 0} (read : List V → Reading → Result (V × Reading) FileFault) (count i : ℕ) (before : List V) (r : Reading) (x : V) (after : Reading) (total : Result (List V × Reading) FileFault) → i < count → read before r ≡ Ok (x, after)
    → known_at read (count - i) before r ≡ total → known_at read (count - (i + 1)) (before ++ x ∷ []) after ≡ total
known-on read count i before r x after total lt h so_far =
    let k : count - i ≡ suc (count - (i + 1)) = omega arith in
    let one : known_at read (count - i) before r ≡ known_at read (count - (i + 1)) (before ++ x ∷ []) after = rw (k, h) refl in
    sym one ∙ so_far

pub known-fault : {V : Type 0} (read : List V → Reading → Result (V × Reading) FileFault) (stop : AttrStop) (fault : FileFault) (count i : ℕ) (before : List V) (r : Reading) (total : Result (List V × Reading) FileFault) → i < count → stop ≡ File fault → read before r ≡ Err fault
    → known_at read (count - i) before r ≡ total → Stops stop total
known-fault read stop fault count i before r total lt is h so_far =
    let k : count - i ≡ suc (count - (i + 1)) = omega arith in
    let one : known_at read (count - i) before r ≡ Err fault = rw (k, h) refl in
    let all : total ≡ Err fault = sym so_far ∙ one in
    rw is all

pub known-done : {V : Type 0} (read : List V → Reading → Result (V × Reading) FileFault) (count i : ℕ) (before : List V) (r : Reading) (total : Result (List V × Reading) FileFault) → count ≤ i → known_at read (count - i) before r ≡ total → total ≡ Ok (before, r)
known-done read count i before r total le so_far =
    let k : count - i ≡ 0 = omega arith in
    let one : known_at read (count - i) before r ≡ Ok (before, r) = rw k refl in
    sym so_far ∙ one

drop_step : (i : ℕ) (xs : List ℕ) → i < length xs → drop i xs ≡ slice_index_or xs i 0 ∷ drop (suc i) xs
drop_step i [] lt = absurd (omega (arith, lt))
drop_step zero (y ∷ ys) lt = refl
drop_step (suc i) (y ∷ ys) lt = drop_step i ys (omega (arith, lt))

drop-step : (i : ℕ) (xs : List ℕ) → i < length xs → drop i xs ≡ slice_index_or xs i 0 ∷ drop (i + 1) xs
drop-step i xs lt = rw (add-one i) (drop_step i xs lt)

-- ---- the cells between offsets

pub next-cut : (first i : ℕ) (offsets : List ℕ) (n : ℕ) → i < length offsets → AreCuts first (drop i offsets) n → (first ≤ slice_index_or offsets i 0) × AreCuts (slice_index_or offsets i 0) (drop (i + 1) offsets) n
next-cut first i offsets n lt h = subst (λ (l : List ℕ). AreCuts first l n) (drop-step i offsets lt) h

pub cuts-rise : (first : ℕ) (offsets : List ℕ) (n : ℕ) → AreCuts first offsets n → first ≤ n
cuts-rise first [] n h = omega (arith, h)
cuts-rise first (next ∷ offsets) n h = let later = cuts-rise next offsets n h.1 in omega (arith, h.0, later)

pub few-indices : (first i : ℕ) (offsets : List ℕ) (n : ℕ) → i < length offsets → AreCuts first (drop i offsets) n → n < 2147483648 → slice_index_or offsets i 0 - first < 2147483648
few-indices first i offsets n lt h few =
    let le = cuts-rise (slice_index_or offsets i 0) (drop (i + 1) offsets) n (next-cut first i offsets n lt h).1 in
    omega (arith, le, few)

-- the cells behind the next one
abbrev behind_cell : Bool → Kind8 → ℕ → ℕ → List ℕ → List ℕ × Reading → Result (List ℕ × Reading) FileFault
behind_cell binary kind points next offsets x = runs_at binary kind points next offsets x.0 x.1

one_cell : (binary : Bool) (kind : Kind8) (points first i : ℕ) (offsets numbers : List ℕ) (r : Reading) → i < length offsets
    → runs_at binary kind points first (drop i offsets) numbers r ≡ (run_at binary kind points (slice_index_or offsets i 0 - first) (numbers ++ (slice_index_or offsets i 0 - first) ∷ []) r >>= behind_cell binary kind points (slice_index_or offsets i 0) (drop (i + 1) offsets))
unfolding runs_at
one_cell binary kind points first i offsets numbers r lt = ap (λ (l : List ℕ). runs_at binary kind points first l numbers r) (drop-step i offsets lt)

pub runs-on : (binary : Bool) (kind : Kind8) (points first i : ℕ) (offsets numbers more : List ℕ) (r after : Reading) (total : Result (List ℕ × Reading) FileFault) → i < length offsets
    → run_at binary kind points (slice_index_or offsets i 0 - first) (numbers ++ (slice_index_or offsets i 0 - first) ∷ []) r ≡ Ok (more, after)
    → runs_at binary kind points first (drop i offsets) numbers r ≡ total → runs_at binary kind points (slice_index_or offsets i 0) (drop (i + 1) offsets) more after ≡ total
runs-on binary kind points first i offsets numbers more r after total lt h so_far =
    let behind = ap (λ (o : Result (List ℕ × Reading) FileFault). o >>= behind_cell binary kind points (slice_index_or offsets i 0) (drop (i + 1) offsets)) h in
    sym (one_cell binary kind points first i offsets numbers r lt ∙ behind) ∙ so_far

pub runs-stop : (binary : Bool) (kind : Kind8) (points first i : ℕ) (offsets numbers : List ℕ) (r : Reading) (stop : AttrStop) (total : Result (List ℕ × Reading) FileFault) → i < length offsets
    → Stops stop (run_at binary kind points (slice_index_or offsets i 0 - first) (numbers ++ (slice_index_or offsets i 0 - first) ∷ []) r)
    → runs_at binary kind points first (drop i offsets) numbers r ≡ total → Stops stop total
runs-stop binary kind points first i offsets numbers r (File fault) total lt h so_far =
    let behind = ap (λ (o : Result (List ℕ × Reading) FileFault). o >>= behind_cell binary kind points (slice_index_or offsets i 0) (drop (i + 1) offsets)) h in
    sym so_far ∙ (one_cell binary kind points first i offsets numbers r lt ∙ behind)
runs-stop binary kind points first i offsets numbers r Memory total lt h so_far = tt

pub runs-done : (binary : Bool) (kind : Kind8) (points first i : ℕ) (offsets numbers : List ℕ) (r : Reading) (total : Result (List ℕ × Reading) FileFault) → length offsets ≤ i
    → runs_at binary kind points first (drop i offsets) numbers r ≡ total → total ≡ Ok (numbers, r)
unfolding runs_at
runs-done binary kind points first i offsets numbers r total le so_far =
    sym so_far ∙ ap (λ (l : List ℕ). runs_at binary kind points first l numbers r) (drop_all i offsets le)
