-- The numbers of cells that are read run by run are those of the runs of the whole list.
use Rattle.std.proofs.Common.{◌≡◌, ℕ, ℤ, pos, negsuc, suc, ◌-◌, ◌+◌, Bool, true, false, not, ◌||◌, List, [], ◌∷◌, ◌++◌, length, Result, Ok, Err, refl, sym, ap, subst, ◌∙◌, append_assoc, arith, if◌then◌else◌}
use Rattle.std.specs.Prelude.{◌==◌, codes, take, drop, unsigned_abs}
use Rattle.std.proofs.lemmas.Bool.{eqb-true, true≢false}
use Rattle.std.proofs.lemmas.List.{append-nil, drop-drop}
use Rattle.std.proofs.Math.Seq.{take-append_seam, drop-append_seam}
use Rattle.viz_column.specs.declared.kind.Kind8.{Kind8}
use Rattle.viz_lex.specs.declared.fault.FileFault.{FileFault}
use Rattle.viz_lex.specs.Reading.{Reading, ◌>>=◌}
use Rattle.viz_lex.specs.Steps.{keyword_at}
use Rattle.viz_lex.specs.Rules.{Decides}
use Rattle.viz_lex.specs.Readers.{times_at}
use Rattle.viz_lex.proofs.ReadingLemmas.{bind_ok}
use Rattle.viz_lex.proofs.RuleLemmas.{decides-gives, decides-follow}
use Rattle.viz_lex.proofs.PassRules.{decides-same}
use Rattle.viz_attr.specs.Counts.{is_number}
use Rattle.viz_attr.specs.Steps.{count_from_at}
use Rattle.viz_counted_cells.specs.Sections.{numbers_of_cells}
use Rattle.viz_counted_cells.specs.Steps.{section_start_at, section_size_at}
use Rattle.viz_counted_cells.proofs.Loops.{with_front}
use Rattle.viz_counted_cells.proofs.SectionLaws.{as_numbers, in_front, decides-section_size}
use Rattle.viz_offset_cells.specs.Runs.{runs_from, runs_between}
use Rattle.viz_offset_cells.specs.Offsets.{has_cuts, offset_section, offset_numbers}
use Rattle.viz_offset_cells.specs.Steps.{index_type_at, index_at, offsets_at, runs_at, all_runs_at, connectivity_at, cut_cells_at, any_cells_at, offset_section_at, AreCuts, AreAllCuts}
use Rattle.viz_offset_cells.proofs.Times.{put_behind, and_more, times_at-length, times_at-add, known_at-times}
use Rattle.viz_offset_cells.proofs.Loops.{cuts-rise}
use Rattle.viz_offset_cells.proofs.OffsetLoops.{known-cuts}
use Rattle.viz_offset_cells.proofs.OffsetLaws.{connectivity_list_at, cut_list_at, any_list_at, section_list_at, decides-offset_section}

-- the runs of what is left behind the first offset
abbrev runs_left : ℕ → List ℕ → List ℕ → List (List ℕ)
runs_left first [] list = []
runs_left first (next ∷ offsets) list = take (next - first) list ∷ runs_left next offsets (drop (next - first) list)

left_is : (first : ℕ) (offsets : List ℕ) (n : ℕ) (list : List ℕ) → AreCuts first offsets n → runs_from first offsets list ≡ runs_left first offsets (drop first list)
left_is first [] n list h = refl
left_is first (next ∷ offsets) n list h =
    let there : first + (next - first) ≡ next = omega (arith, h.0) in
    let behind : drop (next - first) (drop first list) ≡ drop next list = drop-drop (next - first) first list ∙ ap (λ (k : ℕ). drop k list) there in
    rw behind (ap (λ (runs : List (List ℕ)). take (next - first) (drop first list) ∷ runs) (left_is next offsets n list h.1))

-- the numbers of the runs behind those before
abbrev with_runs : List ℕ → ℕ → List ℕ → List ℕ × Reading → Result (List ℕ × Reading) FileFault
with_runs front first offsets x = Ok (front ++ numbers_of_cells (runs_left first offsets x.0), x.1)

-- the numbers of the first run and of those behind it
abbrev with_first : ℕ → List ℕ → ℕ → List ℕ → List ℕ × Reading → Result (List ℕ × Reading) FileFault
with_first m front next offsets x = Ok (front ++ numbers_of_cells (take m x.0 ∷ runs_left next offsets (drop m x.0)), x.1)

cut_last : (m : ℕ) (front xs : List ℕ) (next : ℕ) (offsets : List ℕ) (o : Result (List ℕ × Reading) FileFault) → length xs ≡ m
    → (o >>= with_runs ((front ++ m ∷ []) ++ xs) next offsets) ≡ ((o >>= put_behind xs) >>= with_first m front next offsets)
cut_last m front xs next offsets (Ok y) long =
    rw (← long, take-append_seam xs y.0, drop-append_seam xs y.0) (ap (λ (ns : List ℕ). Ok (ns, y.1)) (simp append_assoc))
cut_last m front xs next offsets (Err f) long = refl

cut_step : (binary : Bool) (kind : Kind8) (points m k : ℕ) (front : List ℕ) (next : ℕ) (offsets : List ℕ) (o : Result (List ℕ × Reading) FileFault)
    → ((x : List ℕ × Reading) → o ≡ Ok x → length x.0 ≡ m)
    → ((front : List ℕ) (r : Reading) → runs_at binary kind points next offsets front r ≡ (times_at (index_at binary kind points) k r >>= with_runs front next offsets))
    → (with_front (front ++ m ∷ []) o >>= λ x. runs_at binary kind points next offsets x.0 x.1) ≡ ((o >>= and_more (index_at binary kind points) k) >>= with_first m front next offsets)
cut_step binary kind points m k front next offsets (Ok x) long later =
    later ((front ++ m ∷ []) ++ x.0) x.1 ∙ cut_last m front x.0 next offsets (times_at (index_at binary kind points) k x.1) (long x refl)
cut_step binary kind points m k front next offsets (Err f) long later = refl

runs-cut : (binary : Bool) (kind : Kind8) (points first : ℕ) (offsets : List ℕ) (n : ℕ) → AreCuts first offsets n → (front : List ℕ) (r : Reading)
    → runs_at binary kind points first offsets front r ≡ (times_at (index_at binary kind points) (n - first) r >>= with_runs front first offsets)
unfolding runs_at
runs-cut binary kind points first [] n h front r =
    let none : n - first ≡ 0 = omega (arith, h) in
    rw none (ap (λ (ns : List ℕ). Ok (ns, r)) (sym (append-nil front)))
runs-cut binary kind points first (next ∷ offsets) n h front r =
    let le = cuts-rise next offsets n h.1 in
    let sum : n - first ≡ (next - first) + (n - next) = omega (arith, le, h.0) in
    let one = known_at-times (index_at binary kind points) (next - first) (front ++ (next - first) ∷ []) r in
    let more = times_at-add (index_at binary kind points) (next - first) (n - next) r in
    ap (λ (o : Result (List ℕ × Reading) FileFault). o >>= λ x. runs_at binary kind points next offsets x.0 x.1) one
    ∙ cut_step binary kind points (next - first) (n - next) front next offsets (times_at (index_at binary kind points) (next - first) r) (times_at-length (index_at binary kind points) (next - first) r) (runs-cut binary kind points next offsets n h.1)
    ∙ ap (λ (o : Result (List ℕ × Reading) FileFault). o >>= with_runs front first (next ∷ offsets)) (sym (ap (λ (k : ℕ). times_at (index_at binary kind points) k r) sum ∙ more))

-- ---- all runs

abbrev with_all : List ℕ → List ℕ × Reading → Result (List ℕ × Reading) FileFault
with_all offsets x = Ok (numbers_of_cells (runs_between offsets x.0), x.1)

same_runs : (offsets : List ℕ) (n : ℕ) (o : Result (List ℕ × Reading) FileFault) → AreCuts 0 offsets n → (o >>= with_runs [] 0 offsets) ≡ (o >>= with_all (0 ∷ offsets))
same_runs offsets n (Ok x) h = ap (λ (runs : List (List ℕ)). Ok (numbers_of_cells runs, x.1)) (sym (left_is 0 offsets n x.0 h))
same_runs offsets n (Err f) h = refl

from_zero : (binary : Bool) (kind : Kind8) (points : ℕ) (offsets : List ℕ) (n : ℕ) (r : Reading) → AreCuts 0 offsets n
    → runs_at binary kind points 0 offsets [] r ≡ (times_at (index_at binary kind points) n r >>= with_all (0 ∷ offsets))
from_zero binary kind points offsets n r h =
    let all : n - 0 ≡ n = omega arith in
    runs-cut binary kind points 0 offsets n h [] r
    ∙ ap (λ (k : ℕ). times_at (index_at binary kind points) k r >>= with_runs [] 0 offsets) all
    ∙ same_runs offsets n (times_at (index_at binary kind points) n r) h

all-runs : (binary : Bool) (kind : Kind8) (points : ℕ) (offsets : List ℕ) (n : ℕ) (r : Reading) → AreAllCuts offsets n
    → all_runs_at binary kind points offsets r ≡ (times_at (index_at binary kind points) n r >>= with_all offsets)
all-runs binary kind points [] n r h = rw h refl
all-runs binary kind points (first ∷ offsets) n r h =
    let cuts : AreCuts 0 offsets n = subst (λ (f : ℕ). AreCuts f offsets n) h.0 h.1 in
    rw h.0 (from_zero binary kind points offsets n r cuts)

connectivity-list : (binary : Bool) (points : ℕ) (offsets : List ℕ) (n : ℕ) (r : Reading) → AreAllCuts offsets n
    → connectivity_at binary points offsets r ≡ (connectivity_list_at binary points n r >>= with_all offsets)
unfolding connectivity_at
connectivity-list binary points offsets n r h =
    in_front (keyword_at (codes "CONNECTIVITY") r) _ (with_all offsets) _ (λ key.
    in_front (index_type_at key.1) _ (with_all offsets) _ (λ kind.
    in_front (section_start_at binary kind.1) _ (with_all offsets) _ (λ started. all-runs binary kind.0 points offsets n started.1 h)))

-- ---- a section

runs-length : (first : ℕ) (offsets list : List ℕ) → length (runs_from first offsets list) ≡ length offsets
runs-length first [] list = refl
runs-length first (next ∷ offsets) list = ap suc (runs-length next offsets list)

count_is : (offsets list : List ℕ) → length offsets - 1 ≡ length (runs_between offsets list)
count_is [] list = refl
count_is (first ∷ offsets) list = let e : suc (length offsets) - 1 ≡ length offsets = omega arith in e ∙ sym (runs-length first offsets list)

-- so many cells, by their numbers
abbrev counted : ℕ → List ℕ × Reading → Result ((ℕ × List ℕ) × Reading) FileFault
counted n x = Ok ((n, x.0), x.1)

abbrev with_cuts : List ℕ → List ℕ × Reading → Result (List (List ℕ) × Reading) FileFault
with_cuts offsets x = Ok (runs_between offsets x.0, x.1)

numbers_cut : (offsets : List ℕ) (o : Result (List ℕ × Reading) FileFault) → ((o >>= with_all offsets) >>= counted (length offsets - 1)) ≡ ((o >>= with_cuts offsets) >>= as_numbers)
numbers_cut offsets (Ok x) = ap (λ (n : ℕ). Ok ((n, numbers_of_cells (runs_between offsets x.0)), x.1)) (count_is offsets x.0)
numbers_cut offsets (Err f) = refl

-- a step in front of two readers, as `in_front` has it, where it is known what the step gave
in_front_known : {A B C : Type 0} (read : Result A FileFault) (f : A → Result B FileFault) (last : B → Result C FileFault) (g : A → Result C FileFault) → ((x : A) → read ≡ Ok x → g x ≡ (f x >>= last)) → (read >>= g) ≡ ((read >>= f) >>= last)
in_front_known (Ok x) f last g e = e x refl
in_front_known (Err fault) f last g e = refl

offsets-cuts : (binary : Bool) (most indices : ℕ) (r : Reading) (x : List ℕ × Reading) → (most ≡ 0 → indices ≡ 0) → offsets_at binary most indices r ≡ Ok x → AreAllCuts x.0 indices
unfolding offsets_at
offsets-cuts binary most indices r x none e =
    let key = bind_ok (keyword_at (codes "OFFSETS") r) _ x e in
    let kind = bind_ok (index_type_at key.0.1) _ x key.2 in
    let started = bind_ok (section_start_at binary kind.0.1) _ x kind.2 in
    known-cuts binary kind.0.0 most indices started.0.1 x.1 x.0 none started.2

cells-list : (binary : Bool) (points most indices : ℕ) (r : Reading) → (most ≡ 0 → indices ≡ 0) → cut_cells_at binary points most indices r ≡ (cut_list_at binary points most indices r >>= as_numbers)
unfolding cut_cells_at
cells-list binary points most indices r none =
    in_front_known (offsets_at binary most indices r) _ as_numbers _ (λ cuts e.
    ap (λ (o : Result (List ℕ × Reading) FileFault). o >>= counted (length cuts.0 - 1)) (connectivity-list binary points cuts.0 indices cuts.1 (offsets-cuts binary most indices r cuts none e))
    ∙ numbers_cut cuts.0 (connectivity_list_at binary points indices cuts.1))

any_tested : (binary : Bool) (points most indices : ℕ) (test : Bool) (r : Reading) → (most ≡ 0 → indices ≡ 0)
    → (if test then cut_cells_at binary points most indices r else Ok ((0, []), r)) ≡ ((if test then cut_list_at binary points most indices r else Ok ([], r)) >>= as_numbers)
any_tested binary points most indices true r none = cells-list binary points most indices r none
any_tested binary points most indices false r none = refl

any-list : (binary : Bool) (points most indices : ℕ) (r : Reading) → (most ≡ 0 → indices ≡ 0) → any_cells_at binary points most indices r ≡ (any_list_at binary points most indices r >>= as_numbers)
unfolding any_cells_at
any-list binary points most indices r none = any_tested binary points most indices (has_cuts most r) r none

zero_sized : (n : ℤ) → is_number 0 n ≡ true → unsigned_abs n ≡ 0
zero_sized (pos n) h = eqb-true n 0 h
zero_sized (negsuc n) h = absurd (true≢false (sym h))

sized_none : (most : ℕ) (r : Reading) (x : ℕ × Reading) → section_size_at most r ≡ Ok x → most ≡ 0 → x.0 ≡ 0
sized_none most r x e z =
    let h = (decides-section_size most).found r x e in
    let test : is_number 0 h.0.1 ≡ true = subst (λ (m : ℕ). (not (m == 0) || is_number 0 h.0.1) ≡ true) z h.3.1.1.0 in
    h.3.1.1.1.1 ∙ zero_sized h.0.1 test

pub section-list : (binary : Bool) (points : ℕ) (r : Reading) → offset_section_at binary points r ≡ (section_list_at binary points r >>= as_numbers)
unfolding offset_section_at
section-list binary points r =
    in_front (count_from_at 0 r) _ as_numbers _ (λ most.
    in_front_known (section_size_at most.0 most.1) _ as_numbers _ (λ indices e.
    any-list binary points most.0 indices.0 indices.1 (sized_none most.0 most.1 indices e)))

pub decides-offset_numbers : (binary : Bool) (points : ℕ) → Decides (offset_numbers binary points) (offset_section_at binary points)
decides-offset_numbers binary points =
    decides-same (offset_numbers binary points) (λ r. section_list_at binary points r >>= as_numbers) (offset_section_at binary points) (section-list binary points)
    (decides-follow (offset_section binary points) _ (section_list_at binary points) _ (decides-offset_section binary points) (λ all. decides-gives (length all, numbers_of_cells all)))
