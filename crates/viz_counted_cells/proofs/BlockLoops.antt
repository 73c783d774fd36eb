-- Cells of one size that are read straight from their bytes, as the readers of a section give them.
use Rattle.std.proofs.Common.{◌≡◌, ℕ, ℤ, pos, zero, suc, ◌-◌, ◌+◌, ◌*◌, ◌≤◌, ◌<◌, true, List, [], ◌∷◌, ◌++◌, length, Ok, refl, sym, ap, ◌∙◌, append_assoc, length-append, add-one, arith}
use Rattle.std.specs.Prelude.{nat_le, nat_lt, not, ◌||◌, ◌==◌, take, drop}
use Rattle.std.specs.Int.{w32, cast_signed}
use Rattle.std.specs.List.{flat_map}
use Rattle.std.proofs.lemmas.Bool.{le-leb, lt-ltb}
use Rattle.std.proofs.lemmas.List.{append-nil, drop-drop, length-drop}
use Rattle.byteorder.specs.Numbers.{big_from-take}
use Rattle.viz_column.specs.declared.kind.Kind8.TheVariants.{I32}
use Rattle.viz_column.specs.Bytes.{number_in}
use Rattle.viz_lex.specs.Blocks.{block_at}
use Rattle.viz_lex.specs.Readers.{bytes_at}
use Rattle.viz_lex.specs.Reading.{Reading, rest_of, advanced}
use Rattle.viz_counted_cells.specs.Numbered.{cell_numbers}
use Rattle.viz_counted_cells.specs.Sections.{is_cell_count}
use Rattle.viz_counted_cells.specs.Numbered.{behind_first}
use Rattle.viz_counted_cells.specs.Steps.{block_number_at, section_number_at, index_at, indices_at, cell_at, cells_at}
use Rattle.viz_counted_cells.specs.Blocks.{StartsWith, IsIndexIn, AreIndicesIn, IsCellIn, AreCellsNext}
use Rattle.viz_counted_cells.proofs.Loops.{Numbered, cells-on, cells-done}
use Rattle.viz_counted_cells.proofs.NumberedLemmas.{behind_cell}

-- ---- places

pub advanced-none : (r : Reading) (n : ℕ) → n ≡ 0 → advanced r n ≡ r
advanced-none r n e =
    let same : r.place + n ≡ r.place = omega (arith, e) in
    ap (λ (p : ℕ). record { bytes = r.bytes; place = p }) same

pub advanced-twice : (r : Reading) (m n k : ℕ) → m + n ≡ k → advanced (advanced r m) n ≡ advanced r k
advanced-twice r m n k e =
    let same : r.place + m + n ≡ r.place + k = omega (arith, e) in
    ap (λ (p : ℕ). record { bytes = r.bytes; place = p }) same

pub rest-advanced : (r : Reading) (n : ℕ) → rest_of (advanced r n) ≡ drop n (rest_of r)
rest-advanced r n = sym (drop-drop n r.place r.bytes)

-- ---- numbers

block-number : (r : Reading) → 4 ≤ length (rest_of r) → block_number_at r ≡ Ok ((r.place, number_in I32 (rest_of r)), advanced r 4)
unfolding block_number_at bytes_at block_at
block-number r room =
    let test : nat_le 4 (length (rest_of r)) ≡ true = le-leb 4 (length (rest_of r)) room in
    let long : r.place + 4 - r.place ≡ 4 = omega arith in
    let same : number_in I32 (take 4 (rest_of r)) ≡ number_in I32 (rest_of r) = ap (λ (n : ℕ). cast_signed w32 n) (big_from-take 0 4 4 (rest_of r) (omega arith)) in
    rw (test, long, same) refl

number-next : (n : ℕ) (r : Reading) → StartsWith n (rest_of r) → section_number_at true r ≡ Ok ((r.place, pos n), advanced r 4)
unfolding section_number_at
number-next n r h = block-number r h.room ∙ ap (λ (z : ℤ). Ok ((r.place, z), advanced r 4)) h.number

index-next : (points i : ℕ) (r : Reading) → IsIndexIn points i (rest_of r) → index_at true points r ≡ Ok (i, advanced r 4)
unfolding index_at
index-next points i r h =
    let test : nat_lt i points ≡ true = lt-ltb i points h.below in
    rw (number-next i r h.starts, test) refl

indices-next : (points : ℕ) (indices numbers : List ℕ) (r : Reading) → AreIndicesIn points indices (rest_of r) → indices_at true points (length indices) numbers r ≡ Ok (numbers ++ indices, advanced r (4 * length indices))
unfolding indices_at
indices-next points [] numbers r h = rw (append-nil numbers, advanced-none r 0 refl) refl
indices-next points (i ∷ indices) numbers r h =
    let behind : AreIndicesIn points indices (rest_of (advanced r 4)) = rw (rest-advanced r 4) h.1 in
    let later = indices-next points indices (numbers ++ i ∷ []) (advanced r 4) behind in
    let far : 4 + 4 * length indices ≡ 4 * suc (length indices) = omega arith in
    rw (index-next points i r h.0) (later ∙ rw (append_assoc numbers (i ∷ []) indices, advanced-twice r 4 (4 * length indices) (4 * suc (length indices)) far) refl)

-- ---- a cell

pub cell-next : (points cells left : ℕ) (indices numbers : List ℕ) (r : Reading) → is_cell_count cells left (pos (length indices)) ≡ true → IsCellIn points indices (rest_of r)
    → cell_at true points cells left numbers r ≡ Ok (numbers ++ cell_numbers indices, advanced r (4 * suc (length indices)))
unfolding cell_at
cell-next points cells left indices numbers r test h =
    let behind : AreIndicesIn points indices (rest_of (advanced r 4)) = rw (rest-advanced r 4) h.each in
    let later = indices-next points indices (numbers ++ length indices ∷ []) (advanced r 4) behind in
    let far : 4 + 4 * length indices ≡ 4 * suc (length indices) = omega arith in
    rw (number-next (length indices) r h.counted, test) (later ∙ rw (append_assoc numbers (length indices ∷ []) indices, advanced-twice r 4 (4 * length indices) (4 * suc (length indices)) far) refl)

counts : (k n left : ℕ) → 0 < n → left ≡ suc k * n → is_cell_count n left (pos k) ≡ true
counts k zero left h e = absurd (omega (arith, h))
counts k (suc m) left h e =
    let room : nat_le (k + suc m) left ≡ true = le-leb (k + suc m) left (omega (arith, e)) in
    rw room (last k m left e) where
      last : (k m left : ℕ) → left ≡ suc k * suc m → (not (suc m == 1) || nat_le left (k + suc m)) ≡ true
      last k zero left e = le-leb left (k + 1) (omega (arith, e))
      last k (suc m) left e =
          let other : not (suc (suc m) == 1) ≡ true = grind arith in
          rw other refl

-- ---- the cells so far

pub fixed-on : (points size count i k : ℕ) (numbers indices : List ℕ) (r : Reading) (total : Numbered) → i < count → size ≡ suc k * count → length numbers ≡ suc k * i → length indices ≡ k → IsCellIn points indices (rest_of r)
    → cells_at true points size (count - i) numbers r ≡ total → cells_at true points size (count - (i + 1)) (numbers ++ cell_numbers indices) (advanced r (4 * suc k)) ≡ total
fixed-on points size count i k numbers indices r total lt all long each h so_far =
    let left : size - length numbers ≡ suc k * (count - i) = rw (all, long) (products k count i lt) in
    let test : is_cell_count (count - i) (size - length numbers) (pos (length indices)) ≡ true = rw each (counts k (count - i) (size - length numbers) (omega arith) left) in
    let one = cell-next points (count - i) (size - length numbers) indices numbers r test h in
    cells-on true points size (size - length numbers) count i numbers (numbers ++ cell_numbers indices) r (advanced r (4 * suc k)) total lt refl (rw (← each) one) so_far where
      products : (k count i : ℕ) → i < count → suc k * count - suc k * i ≡ suc k * (count - i)
      products k count i lt =
          let d : count ≡ i + (count - i) = omega arith in
          let all : suc k * count ≡ suc k * i + suc k * (count - i) = ap (λ (n : ℕ). suc k * n) d ∙ (let e : suc k * (i + (count - i)) ≡ suc k * i + suc k * (count - i) = omega arith in e) in
          omega (arith, all)

-- cells of k indices each were read up to the number i, from the reading at the start
pub record AreCellsSoFar (points size count i k : ℕ) (numbers left : List ℕ) (start : Reading) : Type 0 where
  pub few : i ≤ count
  pub left_is : left ≡ rest_of (advanced start (4 * (suc k * i)))
  pub long : length numbers ≡ suc k * i
  pub room : 4 * (suc k * i) ≤ length (rest_of start)
  pub read : cells_at true points size (count - i) numbers (advanced start (4 * (suc k * i))) ≡ cells_at true points size count [] start

pub so_far-none : (points size count k : ℕ) (left : List ℕ) (start : Reading) → left ≡ rest_of start → AreCellsSoFar points size count 0 k [] left start
so_far-none points size count k left start e =
    let none : 4 * (suc k * 0) ≡ 0 = omega arith in
    let here : advanced start (4 * (suc k * 0)) ≡ start = advanced-none start (4 * (suc k * 0)) none in
    record {
      few = omega arith;
      left_is = e ∙ sym (ap rest_of here);
      long = omega arith;
      room = omega arith;
      read = ap (λ (r : Reading). cells_at true points size (count - 0) [] r) here ∙ ap (λ (n : ℕ). cells_at true points size n [] start) (let e : count - 0 ≡ count = omega arith in e);
    }

pub so_far-on : (points size count i k width : ℕ) (numbers indices left behind : List ℕ) (start : Reading) → i < count → size ≡ suc k * count → length indices ≡ k → IsCellIn points indices left → 4 * suc k ≤ length left → width ≡ 4 * suc k → behind ≡ drop width left
    → AreCellsSoFar points size count i k numbers left start → AreCellsSoFar points size count (i + 1) k (numbers ++ cell_numbers indices) behind start
so_far-on points size count i k width numbers indices left behind start lt all each cell wide w b s =
    let far : 4 * (suc k * i) + 4 * suc k ≡ 4 * (suc k * (i + 1)) = omega arith in
    let there : advanced (advanced start (4 * (suc k * i))) (4 * suc k) ≡ advanced start (4 * (suc k * (i + 1))) = advanced-twice start (4 * (suc k * i)) (4 * suc k) (4 * (suc k * (i + 1))) far in
    let on = fixed-on points size count i k numbers indices (advanced start (4 * (suc k * i))) _ lt all s.long each (rw (← s.left_is) cell) s.read in
    let rest_is : rest_of (advanced start (4 * (suc k * i))) ≡ drop (4 * (suc k * i)) (rest_of start) = rest-advanced start (4 * (suc k * i)) in
    let left_long : length left ≡ length (rest_of start) - 4 * (suc k * i) = ap length (s.left_is ∙ rest_is) ∙ length-drop (4 * (suc k * i)) (rest_of start) in
    record {
      few = omega (arith, lt);
      left_is = b ∙ rw (w, s.left_is) (sym (rest-advanced (advanced start (4 * (suc k * i))) (4 * suc k)) ∙ ap rest_of there);
      long = length-append numbers (cell_numbers indices) ∙ omega (arith, s.long, each);
      room = omega (arith, far, wide, left_long, s.room);
      read = rw (← there) on;
    }

pub so_far-done : (points size count i k : ℕ) (numbers left : List ℕ) (start : Reading) → count ≤ i → size ≡ suc k * count → AreCellsSoFar points size count i k numbers left start → AreCellsNext points size count numbers start
so_far-done points size count i k numbers left start le all s =
    let same : i ≡ count = omega (arith, le, s.few) in
    let whole : 4 * (suc k * i) ≡ 4 * size = rw (same, all) refl in
    let at_end = cells-done true points size count i numbers (advanced start (4 * (suc k * i))) _ le s.read in
    record {
      read = at_end ∙ ap (λ (n : ℕ). Ok (numbers, advanced start n)) whole;
      room = omega (arith, whole, s.room);
    }

-- ---- the numbers of cells that a list gives

pub numbers-pushed : {C : Type 0} (f : C → List ℕ) (cells : List C) (cell : C) → flat_map f (cells ++ cell ∷ []) ≡ flat_map f cells ++ f cell
numbers-pushed f [] cell = append-nil (f cell)
numbers-pushed f (c ∷ cs) cell = ap (λ (ns : List ℕ). f c ++ ns) (numbers-pushed f cs cell) ∙ sym (append_assoc (f c) (flat_map f cs) (f cell))

cells_behind : {C : Type 0} (list : C → List ℕ) (i : ℕ) (cells : List C) → flat_map (λ c. cell_numbers (list c)) (drop (suc i) cells) ≡ behind_first (flat_map (λ c. cell_numbers (list c)) (drop i cells))
cells_behind list zero [] = refl
cells_behind list (suc i) [] = refl
cells_behind list zero (c ∷ cs) = sym (behind_cell (list c) (flat_map (λ c. cell_numbers (list c)) cs))
cells_behind list (suc i) (c ∷ cs) = cells_behind list i cs

pub cells-behind : {C : Type 0} (list : C → List ℕ) (i : ℕ) (cells : List C) → flat_map (λ c. cell_numbers (list c)) (drop (i + 1) cells) ≡ behind_first (flat_map (λ c. cell_numbers (list c)) (drop i cells))
cells-behind list i cells = rw (add-one i) (cells_behind list i cells)
