-- Offsets and indices that are looked at straight in their bytes, as the readers of a section give them.
use Rattle.std.proofs.Common.{◌≡◌, ℕ, pos, zero, suc, ◌-◌, ◌+◌, ◌*◌, ◌≤◌, ◌<◌, Bool, true, false, not, ◌||◌, List, [], ◌∷◌, ◌++◌, length, Result, Ok, Err, IfOk, refl, sym, ap, subst, ◌∙◌, append_assoc, length-append, arith}
use Rattle.std.specs.Prelude.{◌==◌, nat_le, nat_lt, take, drop}
use Rattle.std.specs.Int.{w64, cast_signed}
use Rattle.std.specs.List.{flat_map}
use Rattle.std.proofs.Math.Facts.{to_z_pos}
use Rattle.std.proofs.lemmas.Bool.{le-leb, lt-ltb}
use Rattle.std.proofs.lemmas.List.{append-nil, drop-drop, length-drop}
use Rattle.byteorder.specs.Endian.{big_number}
use Rattle.byteorder.specs.Numbers.{big_from-take}
use Rattle.viz_column.specs.declared.kind.Kind8.{Kind8}
use Rattle.viz_column.specs.declared.kind.Kind8.TheVariants.{I8, U8, I16, U16, I32, U32, I64, U64}
use Rattle.viz_column.specs.Kinds.{size_of}
use Rattle.viz_column.specs.Bytes.{number_in}
use Rattle.viz_lex.specs.declared.fault.FileFault.{FileFault}
use Rattle.viz_lex.specs.Blocks.{block_at}
use Rattle.viz_lex.specs.Readers.{bytes_at, known_at}
use Rattle.viz_lex.specs.Reading.{Reading, rest_of, advanced, ◌>>=◌}
use Rattle.viz_attr.specs.declared.stop.AttrStop.{AttrStop}
use Rattle.viz_attr.specs.declared.stop.AttrStop.TheVariants.{File, Memory}
use Rattle.viz_attr.specs.Reads.{Stops, ReadsUnlessMemory}
use Rattle.viz_counted_cells.specs.Numbered.{cell_numbers}
use Rattle.viz_counted_cells.proofs.BlockLoops.{advanced-none, advanced-twice, rest-advanced}
use Rattle.viz_offset_cells.specs.declared.cuts.Cuts.{Cuts}
use Rattle.viz_offset_cells.specs.declared.cuts.Cuts.TheVariants.{Steps}
use Rattle.viz_offset_cells.specs.Offsets.{is_offset}
use Rattle.viz_offset_cells.specs.Steps.{block_number_at, typed_number_at, offset_at, index_at, run_at, runs_at, AreCuts, AreAllCuts}
use Rattle.viz_offset_cells.specs.Blocks.{steps_from, cuts_of, AreStepsIn, AreIndicesIn, IsCellIn, AreCellsIn, AreStepsNext, AreRunsNext}
use Rattle.viz_offset_cells.proofs.OffsetLoops.{some_before, last_is, known-cuts}

-- ---- numbers of 64 bits

wide_number_in : (kind : Kind8) (n : ℕ) (bytes : List ℕ) → size_of kind ≡ 8 → big_number 8 bytes ≡ n → n < 9223372036854775808 → number_in kind bytes ≡ pos n
wide_number_in I8 n bytes wide is few = absurd (omega (arith, wide))
wide_number_in U8 n bytes wide is few = absurd (omega (arith, wide))
wide_number_in I16 n bytes wide is few = absurd (omega (arith, wide))
wide_number_in U16 n bytes wide is few = absurd (omega (arith, wide))
wide_number_in I32 n bytes wide is few = absurd (omega (arith, wide))
wide_number_in U32 n bytes wide is few = absurd (omega (arith, wide))
wide_number_in I64 n bytes wide is few = ap (λ (m : ℕ). cast_signed w64 m) is ∙ to_z_pos w64 few
wide_number_in U64 n bytes wide is few = ap pos is

wide-number : (kind : Kind8) (n : ℕ) (r : Reading) → size_of kind ≡ 8 → 8 ≤ length (rest_of r) → big_number 8 (rest_of r) ≡ n → n < 9223372036854775808 → typed_number_at true kind r ≡ Ok ((r.place, pos n), advanced r 8)
unfolding typed_number_at block_number_at bytes_at block_at
wide-number kind n r wide room is few =
    let test : nat_le 8 (length (rest_of r)) ≡ true = le-leb 8 (length (rest_of r)) room in
    let long : r.place + 8 - r.place ≡ 8 = omega arith in
    let first : big_number 8 (take 8 (rest_of r)) ≡ n = big_from-take 0 8 8 (rest_of r) (omega arith) ∙ is in
    let number : number_in kind (take 8 (rest_of r)) ≡ pos n = wide_number_in kind n (take 8 (rest_of r)) wide first few in
    rw (wide, test, long, number) refl

room-behind : (r : Reading) (n : ℕ) → 8 + n ≤ length (rest_of r) → n ≤ length (rest_of (advanced r 8))
room-behind r n room =
    let long : length (rest_of (advanced r 8)) ≡ length (rest_of r) - 8 = ap length (rest-advanced r 8) ∙ length-drop 8 (rest_of r) in
    omega (arith, long, room)

-- ---- offsets

offset-next : (kind : Kind8) (most indices n : ℕ) (before : List ℕ) (r : Reading) → size_of kind ≡ 8 → 8 ≤ length (rest_of r) → big_number 8 (rest_of r) ≡ n → n < 9223372036854775808 → is_offset most indices before (pos n) ≡ true
    → offset_at true kind most indices before r ≡ Ok (n, advanced r 8)
unfolding offset_at
offset-next kind most indices n before r wide room is few test = rw (wide-number kind n r wide room is few, test) refl

-- the last of so many is at the end
ends : (a most y indices n : ℕ) → a + n ≡ most → (n ≡ 0 → y ≡ indices) → (not (a == most) || y == indices) ≡ true
ends a most y indices zero all last =
    let e : y ≡ indices = last refl in
    rw e (grind arith)
ends a most y indices (suc n) all last =
    let other : (a == most) ≡ false = rw (← all) (grind arith) in
    rw other refl

rises : (most indices step n last : ℕ) (front : List ℕ) → length front + 1 + suc n ≡ most → last + step * suc n ≡ indices → is_offset most indices (front ++ last ∷ []) (pos (last + step)) ≡ true
rises most indices step n last front all sum =
    let long : length (front ++ last ∷ []) ≡ length front + 1 = length-append front (last ∷ []) in
    let order : nat_le last (last + step) ≡ true = le-leb last (last + step) (omega arith) in
    let end = ends (length (front ++ last ∷ []) + 1) most (last + step) indices n (omega (arith, long, all)) (λ none. rises_last step n last indices none sum) in
    rw (some_before front last, last_is front last, order) end where
      rises_last : (step n last indices : ℕ) → n ≡ 0 → last + step * suc n ≡ indices → last + step ≡ indices
      rises_last step zero last indices none sum = omega (arith, sum)
      rises_last step (suc n) last indices none sum = absurd (omega (arith, none))

steps-behind : (kind : Kind8) (most indices step n last : ℕ) (front : List ℕ) (r : Reading) → size_of kind ≡ 8 → length front + 1 + n ≡ most → last + step * n ≡ indices → indices < 2147483648 → 8 * n ≤ length (rest_of r) → AreStepsIn (last + step) step n (rest_of r)
    → known_at (offset_at true kind most indices) n (front ++ last ∷ []) r ≡ Ok ((front ++ last ∷ []) ++ steps_from (last + step) step n, advanced r (8 * n))
steps-behind kind most indices step zero last front r wide all sum few room h = rw (append-nil (front ++ last ∷ []), advanced-none r 0 refl) refl
steps-behind kind most indices step (suc n) last front r wide all sum few room h =
    let next : offset_at true kind most indices (front ++ last ∷ []) r ≡ Ok (last + step, advanced r 8) =
    offset-next kind most indices (last + step) (front ++ last ∷ []) r wide (omega (arith, room)) h.0 (omega (arith, sum, few)) (rises most indices step n last front all sum) in
    let long : length (front ++ last ∷ []) ≡ length front + 1 = length-append front (last ∷ []) in
    let behind : AreStepsIn (last + step + step) step n (rest_of (advanced r 8)) = rw (rest-advanced r 8) h.1 in
    let later = steps-behind kind most indices step n (last + step) (front ++ last ∷ []) (advanced r 8) wide (omega (arith, long, all)) (omega (arith, sum)) few (room-behind r (8 * n) (omega (arith, room))) behind in
    let far : 8 + 8 * n ≡ 8 * suc n = omega arith in
    rw next (later ∙ rw (append_assoc (front ++ last ∷ []) ((last + step) ∷ []) (steps_from (last + step + step) step n), advanced-twice r 8 (8 * n) (8 * suc n) far) refl)

steps_next : (kind : Kind8) (indices step m : ℕ) (r : Reading) → size_of kind ≡ 8 → step * m ≡ indices → indices < 2147483648 → 8 * suc m ≤ length (rest_of r) → AreStepsIn 0 step (suc m) (rest_of r)
    → known_at (offset_at true kind (suc m) indices) (suc m) [] r ≡ Ok (steps_from 0 step (suc m), advanced r (8 * suc m))
steps_next kind indices step m r wide sum few room h =
    let end : (not (1 == suc m) || 0 == indices) ≡ true = ends 1 (suc m) 0 indices m (omega arith) (λ none. none_left step m indices none sum) in
    let next : offset_at true kind (suc m) indices [] r ≡ Ok (0, advanced r 8) = offset-next kind (suc m) indices 0 [] r wide (omega (arith, room)) h.0 (omega arith) end in
    let behind : AreStepsIn (0 + step) step m (rest_of (advanced r 8)) = rw (rest-advanced r 8) h.1 in
    let later = steps-behind kind (suc m) indices step m 0 [] (advanced r 8) wide (omega arith) (omega (arith, sum)) few (room-behind r (8 * m) (omega (arith, room))) behind in
    let far : 8 + 8 * m ≡ 8 * suc m = omega arith in
    rw next (later ∙ rw (advanced-twice r 8 (8 * m) (8 * suc m) far) refl) where
      none_left : (step m indices : ℕ) → m ≡ 0 → step * m ≡ indices → 0 ≡ indices
      none_left step zero indices none sum = omega (arith, sum)
      none_left step (suc m) indices none sum = absurd (omega (arith, none))

pub steps-next : (kind : Kind8) (most indices step : ℕ) (r : Reading) → size_of kind ≡ 8 → 0 < most → step * (most - 1) ≡ indices → indices < 2147483648 → 8 * most ≤ length (rest_of r) → AreStepsIn 0 step most (rest_of r) → AreStepsNext kind step most indices r
steps-next kind zero indices step r wide some sum few room h = absurd (omega (arith, some))
steps-next kind (suc m) indices step r wide some sum few room h =
    let pred : suc m - 1 ≡ m = omega arith in
    let all : step * m ≡ indices = ap (λ (k : ℕ). step * k) (sym pred) ∙ sum in
    record { read = steps_next kind indices step m r wide all few room h; room = room; some = some }

-- offsets were looked at up to the number i
pub record AreStepsSoFar (step most i offset : ℕ) (left bytes : List ℕ) : Type 0 where
  pub few : i ≤ most
  pub later : AreStepsIn offset step (most - i) left → AreStepsIn 0 step most bytes
  pub sum : offset + step * (most - i) ≡ step * most
  pub room : 8 * (most - i) ≤ length left

pub steps-none : (step most : ℕ) (bytes : List ℕ) → 8 * most ≤ length bytes → AreStepsSoFar step most 0 0 bytes bytes
steps-none step most bytes room =
    let all : most - 0 ≡ most = omega arith in
    record {
      few = omega arith;
      later = λ h. subst (λ (n : ℕ). AreStepsIn 0 step n bytes) all h;
      sum = omega (arith, ap (λ (n : ℕ). step * n) all);
      room = omega (arith, room);
    }

-- the sum of one more
pub next-sum : (step most i : ℕ) → i < most → step * (most - i) ≡ step + step * (most - (i + 1))
next-sum step most i lt =
    let k : most - i ≡ suc (most - (i + 1)) = omega (arith, lt) in
    ap (λ (n : ℕ). step * n) k ∙ omega arith

pub steps-on : (step most i offset : ℕ) (left behind bytes : List ℕ) → i < most → big_number 8 left ≡ offset → behind ≡ drop 8 left → AreStepsSoFar step most i offset left bytes → AreStepsSoFar step most (i + 1) (offset + step) behind bytes
steps-on step most i offset left behind bytes lt is b s =
    let k : most - i ≡ suc (most - (i + 1)) = omega (arith, lt) in
    let more = next-sum step most i lt in
    let long : length behind ≡ length left - 8 = ap length b ∙ length-drop 8 left in
    record {
      few = omega (arith, lt);
      later = λ h. s.later (subst (λ (n : ℕ). AreStepsIn offset step n left) (sym k) (is, subst (λ (l : List ℕ). AreStepsIn (offset + step) step (most - (i + 1)) l) b h));
      sum = omega (arith, more, s.sum);
      room = omega (arith, lt, long, s.room);
    }

pub steps-done : (step most i offset : ℕ) (left bytes : List ℕ) → most ≤ i → AreStepsSoFar step most i offset left bytes → AreStepsIn 0 step most bytes
steps-done step most i offset left bytes le s =
    let none : most - i ≡ 0 = omega (arith, le) in
    s.later (subst (λ (n : ℕ). AreStepsIn offset step n left) (sym none) tt)

pub step-fits : (step most i offset : ℕ) (left bytes : List ℕ) → i < most → step * most < 9223372036854775808 → AreStepsSoFar step most i offset left bytes → offset + step < 9223372036854775808
step-fits step most i offset left bytes lt few s =
    let more = next-sum step most i lt in
    omega (arith, more, few, s.sum)

-- ---- cells

pub index-next : (kind : Kind8) (points i : ℕ) (r : Reading) → size_of kind ≡ 8 → points < 2147483648 → 8 ≤ length (rest_of r) → big_number 8 (rest_of r) ≡ i → i < points → index_at true kind points r ≡ Ok (i, advanced r 8)
unfolding index_at
index-next kind points i r wide few room is below =
    let test : nat_lt i points ≡ true = lt-ltb i points below in
    rw (wide-number kind i r wide room is (omega (arith, few, below)), test) refl

run-next : (kind : Kind8) (points : ℕ) (indices numbers : List ℕ) (r : Reading) → size_of kind ≡ 8 → points < 2147483648 → 8 * length indices ≤ length (rest_of r) → AreIndicesIn points indices (rest_of r)
    → run_at true kind points (length indices) numbers r ≡ Ok (numbers ++ indices, advanced r (8 * length indices))
run-next kind points [] numbers r wide few room h = rw (append-nil numbers, advanced-none r 0 refl) refl
run-next kind points (i ∷ indices) numbers r wide few room h =
    let next = index-next kind points i r wide few (omega (arith, room)) h.0 h.1 in
    let behind : AreIndicesIn points indices (rest_of (advanced r 8)) = rw (rest-advanced r 8) h.2 in
    let later = run-next kind points indices (numbers ++ i ∷ []) (advanced r 8) wide few (room-behind r (8 * length indices) (omega (arith, room))) behind in
    let far : 8 + 8 * length indices ≡ 8 * suc (length indices) = omega arith in
    rw next (later ∙ rw (append_assoc numbers (i ∷ []) indices, advanced-twice r 8 (8 * length indices) (8 * suc (length indices)) far) refl)

cell-next : (kind : Kind8) (points step : ℕ) (indices numbers : List ℕ) (r : Reading) → size_of kind ≡ 8 → points < 2147483648 → IsCellIn points step indices (rest_of r)
    → run_at true kind points step (numbers ++ step ∷ []) r ≡ Ok (numbers ++ cell_numbers indices, advanced r (8 * step))
cell-next kind points step indices numbers r wide few h =
    let room : 8 * length indices ≤ length (rest_of r) = rw h.long h.room in
    let all = run-next kind points indices (numbers ++ length indices ∷ []) r wide few room h.each ∙ rw (append_assoc numbers (length indices ∷ []) indices) refl in
    rw (← h.long) all

pub runs-next : {C : Type 0} (list : C → List ℕ) (kind : Kind8) (points step first : ℕ) (cells : List C) (numbers : List ℕ) (r : Reading) → size_of kind ≡ 8 → points < 2147483648 → AreCellsIn list points step cells (rest_of r)
    → runs_at true kind points first (steps_from (first + step) step (length cells)) numbers r ≡ Ok (numbers ++ flat_map (λ c. cell_numbers (list c)) cells, advanced r (8 * (step * length cells)))
unfolding runs_at
runs-next list kind points step first [] numbers r wide few h =
    let none : 8 * (step * 0) ≡ 0 = omega arith in
    rw (append-nil numbers, advanced-none r (8 * (step * 0)) none) refl
runs-next list kind points step first (c ∷ cs) numbers r wide few h =
    let size : first + step - first ≡ step = omega arith in
    let next = cell-next kind points step (list c) numbers r wide few h.0 in
    let behind : AreCellsIn list points step cs (rest_of (advanced r (8 * step))) = rw (rest-advanced r (8 * step)) h.1 in
    let later = runs-next list kind points step (first + step) cs (numbers ++ cell_numbers (list c)) (advanced r (8 * step)) wide few behind in
    let far : 8 * step + 8 * (step * length cs) ≡ 8 * (step * suc (length cs)) = omega arith in
    rw (size, next) (later ∙ rw (append_assoc numbers (cell_numbers (list c)) (flat_map (λ c. cell_numbers (list c)) cs), advanced-twice r (8 * step) (8 * (step * length cs)) (8 * (step * suc (length cs))) far) refl)

pub cells-room : {C : Type 0} (list : C → List ℕ) (points step : ℕ) (cells : List C) (bytes : List ℕ) → AreCellsIn list points step cells bytes → 8 * (step * length cells) ≤ length bytes
cells-room list points step [] bytes h = omega arith
cells-room list points step (c ∷ cs) bytes h =
    let later = cells-room list points step cs (drop (8 * step) bytes) h.1 in
    let long : length (drop (8 * step) bytes) ≡ length bytes - 8 * step = length-drop (8 * step) bytes in
    omega (arith, later, long, h.0.room)

cells_pushed : {C : Type 0} (list : C → List ℕ) (points size : ℕ) (cells : List C) (cell : C) (bytes : List ℕ) → AreCellsIn list points size cells bytes → IsCellIn points size (list cell) (drop (8 * (size * length cells)) bytes) → AreCellsIn list points size (cells ++ cell ∷ []) bytes
cells_pushed list points size [] cell bytes h is =
    let none : 8 * (size * 0) ≡ 0 = omega arith in
    (subst (λ (n : ℕ). IsCellIn points size (list cell) (drop n bytes)) none is, tt)
cells_pushed list points size (c ∷ cs) cell bytes h is =
    let far : 8 * (size * suc (length cs)) ≡ 8 * size + 8 * (size * length cs) = omega arith in
    let there : drop (8 * (size * suc (length cs))) bytes ≡ drop (8 * (size * length cs)) (drop (8 * size) bytes) = ap (λ (n : ℕ). drop n bytes) far ∙ sym (drop-drop (8 * (size * length cs)) (8 * size) bytes) in
    (h.0, cells_pushed list points size cs cell (drop (8 * size) bytes) h.1 (subst (λ (l : List ℕ). IsCellIn points size (list cell) l) there is))

-- cells were read up to the number i
pub record AreCellsSoFar {C : Type 0} (list : C → List ℕ) (points size count i : ℕ) (cells : List C) (left bytes : List ℕ) : Type 0 where
  pub few : i ≤ count
  pub long : length cells ≡ i
  pub left_is : left ≡ drop (8 * (size * i)) bytes
  pub cells_are : AreCellsIn list points size cells bytes

pub cells-none : {C : Type 0} (list : C → List ℕ) (points size count : ℕ) (bytes : List ℕ) → AreCellsSoFar list points size count 0 [] bytes bytes
cells-none list points size count bytes =
    let none : 8 * (size * 0) ≡ 0 = omega arith in
    record { few = omega arith; long = refl; left_is = ap (λ (n : ℕ). drop n bytes) (sym none); cells_are = tt }

pub cells-on : {C : Type 0} (list : C → List ℕ) (points size count i width : ℕ) (cells : List C) (cell : C) (left behind bytes : List ℕ) → i < count → IsCellIn points size (list cell) left → width ≡ 8 * size → behind ≡ drop width left
    → AreCellsSoFar list points size count i cells left bytes → AreCellsSoFar list points size count (i + 1) (cells ++ cell ∷ []) behind bytes
cells-on {C = C} list points size count i width cells cell left behind bytes lt is w b s =
    let far : 8 * (size * i) + 8 * size ≡ 8 * (size * (i + 1)) = omega arith in
    let there : IsCellIn points size (list cell) (drop (8 * (size * length cells)) bytes) = rw (s.long, ← s.left_is) is in
    record {
      few = omega (arith, lt);
      long = length-append cells (cell ∷ []) ∙ omega (arith, s.long);
      left_is = b ∙ rw (w, s.left_is) (drop-drop (8 * size) (8 * (size * i)) bytes ∙ ap (λ (n : ℕ). drop n bytes) far);
      cells_are = cells_pushed list points size cells cell bytes s.cells_are there;
    }

-- ---- cells of one size, one by one

pub steps-end : (first step n indices : ℕ) → AreCuts first (steps_from (first + step) step n) indices → first + step * n ≡ indices
steps-end first step zero indices h = omega (arith, h)
steps-end first step (suc n) indices h = let later = steps-end (first + step) step n indices h.1 in omega (arith, later)

pub steps-length : (first step n : ℕ) → length (steps_from first step n) ≡ n
steps-length first step zero = refl
steps-length first step (suc n) = ap suc (steps-length (first + step) step n)

-- the cells behind the next one
abbrev behind_equal : Bool → Kind8 → ℕ → ℕ → ℕ → ℕ → List ℕ × Reading → Result (List ℕ × Reading) FileFault
behind_equal binary kind points step next n x = runs_at binary kind points next (steps_from (next + step) step n) x.0 x.1

one_equal : (binary : Bool) (kind : Kind8) (points step count i : ℕ) (numbers : List ℕ) (r : Reading) → i < count
    → runs_at binary kind points (step * i) (steps_from (step * i + step) step (count - i)) numbers r ≡ (run_at binary kind points step (numbers ++ step ∷ []) r >>= behind_equal binary kind points step (step * i + step) (count - (i + 1)))
unfolding runs_at
one_equal binary kind points step count i numbers r lt =
    let k : count - i ≡ suc (count - (i + 1)) = omega (arith, lt) in
    let size : step * i + step - step * i ≡ step = omega arith in
    rw (k, size) refl

pub equal-on : (binary : Bool) (kind : Kind8) (points step count i : ℕ) (numbers more : List ℕ) (r after : Reading) (total : Result (List ℕ × Reading) FileFault) → i < count → run_at binary kind points step (numbers ++ step ∷ []) r ≡ Ok (more, after)
    → runs_at binary kind points (step * i) (steps_from (step * i + step) step (count - i)) numbers r ≡ total → runs_at binary kind points (step * (i + 1)) (steps_from (step * (i + 1) + step) step (count - (i + 1))) more after ≡ total
equal-on binary kind points step count i numbers more r after total lt h so_far =
    let behind = ap (λ (o : Result (List ℕ × Reading) FileFault). o >>= behind_equal binary kind points step (step * i + step) (count - (i + 1))) h in
    let next : step * (i + 1) ≡ step * i + step = omega arith in
    rw next (sym (one_equal binary kind points step count i numbers r lt ∙ behind) ∙ so_far)

pub equal-stop : (binary : Bool) (kind : Kind8) (points step count i : ℕ) (numbers : List ℕ) (r : Reading) (stop : AttrStop) (total : Result (List ℕ × Reading) FileFault) → i < count → Stops stop (run_at binary kind points step (numbers ++ step ∷ []) r)
    → runs_at binary kind points (step * i) (steps_from (step * i + step) step (count - i)) numbers r ≡ total → Stops stop total
equal-stop binary kind points step count i numbers r (File fault) total lt h so_far =
    let behind = ap (λ (o : Result (List ℕ × Reading) FileFault). o >>= behind_equal binary kind points step (step * i + step) (count - (i + 1))) h in
    sym so_far ∙ (one_equal binary kind points step count i numbers r lt ∙ behind)
equal-stop binary kind points step count i numbers r Memory total lt h so_far = tt

pub equal-done : (binary : Bool) (kind : Kind8) (points step count i : ℕ) (numbers : List ℕ) (r : Reading) (total : Result (List ℕ × Reading) FileFault) → count ≤ i
    → runs_at binary kind points (step * i) (steps_from (step * i + step) step (count - i)) numbers r ≡ total → total ≡ Ok (numbers, r)
unfolding runs_at
equal-done binary kind points step count i numbers r total le so_far =
    let none : count - i ≡ 0 = omega (arith, le) in
    sym so_far ∙ ap (λ (n : ℕ). runs_at binary kind points (step * i) (steps_from (step * i + step) step n) numbers r) none

pub equal-start : (binary : Bool) (kind : Kind8) (points step count : ℕ) (numbers : List ℕ) (r : Reading) → runs_at binary kind points (step * 0) (steps_from (step * 0 + step) step (count - 0)) numbers r ≡ runs_at binary kind points 0 (steps_from (0 + step) step count) numbers r
equal-start binary kind points step count numbers r =
    let none : step * 0 ≡ 0 = omega arith in
    let all : count - 0 ≡ count = omega arith in
    rw (none, all) refl

pub equal-few : (step count i : ℕ) → i < count → step * count < 2147483648 → step < 2147483648
equal-few step count i lt few =
    let k : count ≡ suc (count - 1) = omega (arith, lt) in
    let sum : step * count ≡ step + step * (count - 1) = ap (λ (n : ℕ). step * n) k ∙ omega arith in
    omega (arith, sum, few)

pub steps-count : (step cells : ℕ) → length (steps_from 0 step (suc cells)) - 1 ≡ cells
steps-count step cells = let long = steps-length 0 step (suc cells) in omega (arith, long)

pub cuts-end : (cuts : Cuts) (step count indices : ℕ) → cuts ≡ Steps step count → AreAllCuts (cuts_of cuts) indices → step * count ≡ indices
cuts-end cuts step count indices is h =
    let all : AreAllCuts (steps_from 0 step (suc count)) indices = subst (λ (c : Cuts). AreAllCuts (cuts_of c) indices) is h in
    let sum = steps-end 0 step count indices all.1 in
    omega (arith, sum)

-- ---- what was read

pub cuts-read : (binary : Bool) (kind : Kind8) (most indices : ℕ) (r new : Reading) (result : Result Cuts AttrStop) → (most ≡ 0 → indices ≡ 0) → ReadsUnlessMemory cuts_of result new (known_at (offset_at binary kind most indices) most [] r)
    → IfOk result (λ cuts. AreAllCuts (cuts_of cuts) indices)
cuts-read binary kind most indices r new (Ok cuts) none h = known-cuts binary kind most indices r new (cuts_of cuts) none h
cuts-read binary kind most indices r new (Err stop) none h = tt

pub runs-found : {C : Type 0} (list : C → List ℕ) (kind : Kind8) (points step count indices : ℕ) (cells : List C) (bytes numbers : List ℕ) (r : Reading) → size_of kind ≡ 8 → points < 2147483648 → indices ≡ step * count → length cells ≡ count → bytes ≡ rest_of r
    → AreCellsIn list points step cells bytes → numbers ≡ flat_map (λ c. cell_numbers (list c)) cells → AreRunsNext kind points (steps_from 0 step (suc count)) indices numbers r
runs-found list kind points step count indices cells bytes numbers r wide few all long b h n =
    let there : AreCellsIn list points step cells (rest_of r) = subst (λ (l : List ℕ). AreCellsIn list points step cells l) b h in
    let sum : indices ≡ step * length cells = rw long all in
    record {
      read = rw (n, sum, ← long) (runs-next list kind points step 0 cells [] r wide few there);
      room = rw sum (cells-room list points step cells (rest_of r) there);
    }
