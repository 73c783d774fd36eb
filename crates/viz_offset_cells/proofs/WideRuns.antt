-- Cells of several sizes that are read straight from their bytes, as the readers of a section give them.
use Rattle.std.proofs.Common.{◌≡◌, ℕ, ◌-◌, ◌+◌, ◌*◌, ◌≤◌, ◌<◌, true, List, [], ◌∷◌, ◌++◌, length, Ok, refl, sym, ap, subst, ◌∙◌, arith, slice_index_or}
use Rattle.std.specs.Prelude.{drop}
use Rattle.std.proofs.lemmas.List.{drop_all, drop-drop, length-drop}
use Rattle.byteorder.specs.Endian.{big_number}
use Rattle.viz_column.specs.declared.kind.Kind8.{Kind8}
use Rattle.viz_column.specs.Kinds.{size_of}
use Rattle.viz_lex.specs.Reading.{Reading, rest_of, advanced}
use Rattle.viz_counted_cells.proofs.BlockLoops.{advanced-none, advanced-twice, rest-advanced}
use Rattle.viz_offset_cells.specs.Steps.{index_at, run_at, runs_at, AreCuts}
use Rattle.viz_offset_cells.specs.Blocks.{IsRunIn, AreRunsIn, AreRunsNext}
use Rattle.viz_offset_cells.proofs.Loops.{known-on, known-done, next-cut, cuts-rise, runs-on, runs-done}
use Rattle.viz_offset_cells.proofs.BlockLoops.{index-next}

-- ---- a run

-- indices were read up to the number i
pub record IsRunSoFar (points count i : ℕ) (before numbers left bytes : List ℕ) : Type 0 where
  pub few : i ≤ count
  pub left_is : left ≡ drop (8 * i) bytes
  pub room : 8 * (count - i) ≤ length left
  pub read : (kind : Kind8) (r : Reading) → size_of kind ≡ 8 → bytes ≡ rest_of r → run_at true kind points (count - i) numbers (advanced r (8 * i)) ≡ run_at true kind points count before r

pub run-none : (points count : ℕ) (before bytes : List ℕ) → 8 * count ≤ length bytes → IsRunSoFar points count 0 before before bytes bytes
run-none points count before bytes room =
    let all : count - 0 ≡ count = omega arith in
    record {
      few = omega arith;
      left_is = refl;
      room = omega (arith, room);
      read = λ kind r wide b. rw (all, advanced-none r (8 * 0) refl) refl;
    }

pub run-on : (points count i index : ℕ) (before numbers left behind bytes : List ℕ) → i < count → points < 2147483648 → big_number 8 left ≡ index → index < points → behind ≡ drop 8 left
    → IsRunSoFar points count i before numbers left bytes → IsRunSoFar points count (i + 1) before (numbers ++ index ∷ []) behind bytes
run-on points count i index before numbers left behind bytes lt few is below b s =
    let long : length behind ≡ length left - 8 = ap length b ∙ length-drop 8 left in
    let far : 8 * i + 8 ≡ 8 * (i + 1) = omega arith in
    let room : 8 ≤ length left = let all = s.room in omega (arith, lt, all) in
    record {
      few = omega (arith, lt);
      left_is = b ∙ rw s.left_is (drop-drop 8 (8 * i) bytes ∙ ap (λ (n : ℕ). drop n bytes) far);
      room = omega (arith, lt, long, s.room);
      read = λ kind r wide at.
          let there : left ≡ rest_of (advanced r (8 * i)) = s.left_is ∙ ap (λ (l : List ℕ). drop (8 * i) l) at ∙ sym (rest-advanced r (8 * i)) in
          let next : index_at true kind points (advanced r (8 * i)) ≡ Ok (index, advanced (advanced r (8 * i)) 8) =
          index-next kind points index (advanced r (8 * i)) wide few (subst (λ (l : List ℕ). 8 ≤ length l) there room) (subst (λ (l : List ℕ). big_number 8 l ≡ index) there is) below in
          let on = known-on (λ before. index_at true kind points) count i numbers (advanced r (8 * i)) index (advanced (advanced r (8 * i)) 8) _ lt next (s.read kind r wide at) in
          subst (λ (q : Reading). run_at true kind points (count - (i + 1)) (numbers ++ index ∷ []) q ≡ run_at true kind points count before r) (advanced-twice r (8 * i) 8 (8 * (i + 1)) far) on;
    }

pub run-done : (points count i : ℕ) (before numbers left bytes : List ℕ) → count ≤ i → IsRunSoFar points count i before numbers left bytes → IsRunIn points count before numbers bytes
run-done points count i before numbers left bytes le s kind r wide at =
    let same : i ≡ count = omega (arith, le, s.few) in
    known-done (λ before. index_at true kind points) count i numbers (advanced r (8 * i)) _ le (s.read kind r wide at) ∙ ap (λ (n : ℕ). Ok (numbers, advanced r (8 * n))) same

pub run-room : (points count i : ℕ) (before numbers left bytes : List ℕ) → i < count → IsRunSoFar points count i before numbers left bytes → 8 ≤ length left
run-room points count i before numbers left bytes lt s = let all = s.room in omega (arith, lt, all)

-- ---- the runs between offsets

-- the cells up to the number i were read, which end at last
pub record AreRunsSoFar (points : ℕ) (offsets : List ℕ) (indices i last : ℕ) (before numbers left bytes : List ℕ) : Type 0 where
  pub cuts : AreCuts last (drop i offsets) indices
  pub left_is : left ≡ drop (8 * last) bytes
  pub read : (kind : Kind8) (r : Reading) → size_of kind ≡ 8 → bytes ≡ rest_of r → runs_at true kind points last (drop i offsets) numbers (advanced r (8 * last)) ≡ runs_at true kind points 0 offsets before r

pub runs-none : (points indices : ℕ) (offsets before bytes : List ℕ) → AreCuts 0 offsets indices → AreRunsSoFar points offsets indices 0 0 before before bytes bytes
runs-none points indices offsets before bytes cuts = record {
  cuts = cuts;
  left_is = refl;
  read = λ kind r wide at. rw (advanced-none r (8 * 0) refl) refl;
}

pub runs-room : (points indices i last : ℕ) (offsets before numbers left bytes : List ℕ) → i < length offsets → 8 * indices ≤ length bytes → AreRunsSoFar points offsets indices i last before numbers left bytes → 8 * (slice_index_or offsets i 0 - last) ≤ length left
runs-room points indices i last offsets before numbers left bytes lt room s =
    let cut = next-cut last i offsets indices lt s.cuts in
    let rise = cuts-rise (slice_index_or offsets i 0) (drop (i + 1) offsets) indices cut.1 in
    let long : length left ≡ length bytes - 8 * last = ap length s.left_is ∙ length-drop (8 * last) bytes in
    omega (arith, room, rise, cut.0, long)

pub runs-next-cut : (points indices i last : ℕ) (offsets before numbers left bytes : List ℕ) → i < length offsets → AreRunsSoFar points offsets indices i last before numbers left bytes → (last ≤ slice_index_or offsets i 0) × (slice_index_or offsets i 0 ≤ indices)
runs-next-cut points indices i last offsets before numbers left bytes lt s =
    let cut = next-cut last i offsets indices lt s.cuts in
    (cut.0, cuts-rise (slice_index_or offsets i 0) (drop (i + 1) offsets) indices cut.1)

pub runs-step : (points indices i last : ℕ) (offsets before numbers more left behind bytes : List ℕ) → i < length offsets → IsRunIn points (slice_index_or offsets i 0 - last) (numbers ++ (slice_index_or offsets i 0 - last) ∷ []) more left → behind ≡ drop (8 * (slice_index_or offsets i 0 - last)) left
    → AreRunsSoFar points offsets indices i last before numbers left bytes → AreRunsSoFar points offsets indices (i + 1) (slice_index_or offsets i 0) before more behind bytes
runs-step points indices i last offsets before numbers more left behind bytes lt run b s =
    let next = slice_index_or offsets i 0 in
    let cut = next-cut last i offsets indices lt s.cuts in
    let far : 8 * last + 8 * (next - last) ≡ 8 * next = let le = cut.0 in omega (arith, le) in
    record {
      cuts = cut.1;
      left_is = b ∙ rw s.left_is (drop-drop (8 * (next - last)) (8 * last) bytes ∙ ap (λ (n : ℕ). drop n bytes) far);
      read = λ kind r wide at.
          let there : left ≡ rest_of (advanced r (8 * last)) = s.left_is ∙ ap (λ (l : List ℕ). drop (8 * last) l) at ∙ sym (rest-advanced r (8 * last)) in
          let on = runs-on true kind points last i offsets numbers more (advanced r (8 * last)) (advanced (advanced r (8 * last)) (8 * (next - last))) _ lt (run kind (advanced r (8 * last)) wide there) (s.read kind r wide at) in
          subst (λ (q : Reading). runs_at true kind points next (drop (i + 1) offsets) more q ≡ runs_at true kind points 0 offsets before r) (advanced-twice r (8 * last) (8 * (next - last)) (8 * next) far) on;
    }

pub runs-all : (points indices i last : ℕ) (offsets before numbers left bytes : List ℕ) → length offsets ≤ i → AreRunsSoFar points offsets indices i last before numbers left bytes → AreRunsIn points offsets indices before numbers bytes
runs-all points indices i last offsets before numbers left bytes le s kind r wide at =
    let same : last ≡ indices = subst (λ (l : List ℕ). AreCuts last l indices) (drop_all i offsets le) s.cuts in
    runs-done true kind points last i offsets numbers (advanced r (8 * last)) _ le (s.read kind r wide at) ∙ ap (λ (n : ℕ). Ok (numbers, advanced r (8 * n))) same

pub runs-are-next : (kind : Kind8) (points first indices : ℕ) (later numbers bytes : List ℕ) (r : Reading) → size_of kind ≡ 8 → first ≡ 0 → bytes ≡ rest_of r → 8 * indices ≤ length bytes → AreRunsIn points later indices [] numbers bytes
    → AreRunsNext kind points (first ∷ later) indices numbers r
runs-are-next kind points first indices later numbers bytes r wide none at room h =
    record { read = rw none (h kind r wide at); room = subst (λ (l : List ℕ). 8 * indices ≤ length l) at room }

pub runs-few : (points indices i last : ℕ) (offsets before numbers left bytes : List ℕ) → i < length offsets → indices < 2147483648 → AreRunsSoFar points offsets indices i last before numbers left bytes → slice_index_or offsets i 0 - last < 2147483648
runs-few points indices i last offsets before numbers left bytes lt few s =
    let cut = runs-next-cut points indices i last offsets before numbers left bytes lt s in
    omega (arith, few, cut.1)
