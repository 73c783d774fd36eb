-- The readers of sections decide their rules: each keeps the numbers as they stand, and the rules have the cells.
use Rattle.std.proofs.Common.{◌≡◌, ℕ, ℤ, zero, suc, ◌+◌, ◌-◌, ◌^◌, Bool, true, false, not, ◌||◌, List, [], ◌∷◌, ◌++◌, length, length-append, Result, Ok, Err, refl, sym, ap, ◌∙◌, append_assoc, arith}
use Rattle.std.specs.Prelude.{◌==◌, unsigned_abs}
use Rattle.std.proofs.lemmas.List.{append-nil}
use Rattle.viz_column.specs.declared.kind.Kind8.TheVariants.{I32}
use Rattle.viz_column.specs.Bytes.{number_in}
use Rattle.viz_lex.specs.declared.fault.FileFault.{FileFault}
use Rattle.viz_lex.specs.declared.fault.FileKind.TheVariants.{Count, Index, TooMany}
use Rattle.viz_lex.specs.Reading.{Reading, ◌>>=◌}
use Rattle.viz_lex.specs.Words.{line_end_at}
use Rattle.viz_lex.specs.Steps.{guard, due_number}
use Rattle.viz_lex.specs.Rules.{Rule, gives, follow, Decides}
use Rattle.viz_lex.specs.Repeats.{AreTimes}
use Rattle.viz_lex.specs.Items.{number, line_end, block}
use Rattle.viz_lex.specs.Readers.{times_at, bytes_at}
use Rattle.viz_lex.proofs.ReadingLemmas.{done, done_is}
use Rattle.viz_lex.proofs.RuleLemmas.{along-to, decides-gives, decides-follow, decides-demand, decides-choose, decides-times}
use Rattle.viz_lex.proofs.ItemLemmas.{decides-number}
use Rattle.viz_lex.proofs.PassRules.{decides-same, decides-line_end, decides-block}
use Rattle.viz_attr.specs.Counts.{is_number, is_at_least, is_below, count_from}
use Rattle.viz_attr.specs.Steps.{count_from_at}
use Rattle.viz_attr.proofs.PartLaws.{decides-count_from}
use Rattle.viz_counted_cells.specs.Sections.{here, block_number, section_number, section_start, is_index, index, is_cell_count, cell, cells, section_size, section, cell_numbers, numbers_of_cells, section_numbers}
use Rattle.viz_counted_cells.specs.Steps.{block_number_at, section_number_at, section_start_at, index_at, indices_at, cell_at, cells_at, section_size_at, section_at}
use Rattle.viz_counted_cells.proofs.Loops.{with_front, regroup, Numbered}

-- ---- numbers

abbrev pub here_at : Reading → Result (ℕ × Reading) FileFault
here_at r = Ok (r.place, r)

pub decides-here : Decides here here_at
decides-here = record {
  found = λ r x e. let is : (r.place, r) ≡ x = done_is (r.place, r) x e in (sym (ap (λ (p : ℕ × Reading). p.1) is), sym (ap (λ (p : ℕ × Reading). p.0) is));
  only = λ r next x h. rw (h.0, h.1) refl;
  stops = λ r f e. absurd (let no : done (r.place, r) ≡ Err f = e in cc);
  only_stops = λ r f h. absurd h;
  along = λ r next x h. along-to r next h.0;
}

decides-block_number : Decides block_number block_number_at
unfolding block_number_at
decides-block_number =
    decides-follow here _ here_at _ decides-here (λ place.
    decides-follow (block 4) _ (bytes_at 4) _ (decides-block 4) (λ bytes. decides-gives (place, number_in I32 bytes)))

pub decides-section_number : (binary : Bool) → Decides (section_number binary) (section_number_at binary)
unfolding section_number_at
decides-section_number binary = decides-choose binary _ _ _ _ decides-block_number decides-number

pub decides-section_start : (binary : Bool) → Decides (section_start binary) (section_start_at binary)
unfolding section_start_at
decides-section_start binary = decides-choose binary line_end (gives tt) line_end_at (λ r. Ok (tt, r)) decides-line_end (decides-gives tt)

decides-index : (binary : Bool) (points : ℕ) → Decides (index binary points) (index_at binary points)
unfolding index_at
decides-index binary points =
    decides-follow (section_number binary) _ (section_number_at binary) _ (decides-section_number binary) (λ n.
    decides-demand (is_index points n.1) Index n.0 _ _ (decides-gives (unsigned_abs n.1)))

pub decides-section_size : (n : ℕ) → Decides (section_size n) (section_size_at n)
unfolding section_size_at
decides-section_size n =
    decides-follow number _ due_number _ decides-number (λ size.
    decides-demand (is_at_least 0 size.1) Count size.0 _ _ (
    decides-demand (is_below (2 ^ 31) size.1) TooMany size.0 _ _ (
    decides-demand (not (n == 0) || is_number 0 size.1) Count size.0 _ _ (decides-gives (unsigned_abs size.1)))))

-- ---- the readers that give lists of indices

abbrev pub cell_list_at : Bool → ℕ → ℕ → ℕ → Reading → Numbered
cell_list_at binary points cells left r =
    section_number_at binary r >>= λ c. guard (is_cell_count cells left c.0.1) Count c.0.0 >>= λ is. times_at (index_at binary points) (unsigned_abs c.0.1) c.1

abbrev pub cells_list_at : Bool → ℕ → ℕ → ℕ → Reading → Result (List (List ℕ) × Reading) FileFault
cells_list_at binary points zero left r = Ok ([], r)
cells_list_at binary points (suc n) left r =
    cell_list_at binary points (suc n) left r >>= λ x. cells_list_at binary points n (left - suc (length x.0)) x.1 >>= λ xs. Ok (x.0 ∷ xs.0, xs.1)

abbrev pub section_list_at : Bool → ℕ → Reading → Result (List (List ℕ) × Reading) FileFault
section_list_at binary points r =
    count_from_at 0 r >>= λ n. section_size_at n.0 n.1 >>= λ size. section_start_at binary size.1 >>= λ started. cells_list_at binary points n.0 size.0 started.1

decides-cell : (binary : Bool) (points cells left : ℕ) → Decides (cell binary points cells left) (cell_list_at binary points cells left)
decides-cell binary points cells left =
    decides-follow (section_number binary) _ (section_number_at binary) _ (decides-section_number binary) (λ c.
    decides-demand (is_cell_count cells left c.1) Count c.0 _ _ (decides-times (index binary points) (index_at binary points) (decides-index binary points) (unsigned_abs c.1)))

pub decides-cells : (binary : Bool) (points n left : ℕ) → Decides (cells binary points n left) (cells_list_at binary points n left)
decides-cells binary points zero left = decides-gives []
decides-cells binary points (suc n) left =
    decides-follow (cell binary points (suc n) left) _ (cell_list_at binary points (suc n) left) _ (decides-cell binary points (suc n) left) (λ first.
    decides-follow (cells binary points n (left - suc (length first))) _ (cells_list_at binary points n (left - suc (length first))) _ (decides-cells binary points n (left - suc (length first))) (λ others.
    decides-gives (first ∷ others)))

pub decides-section : (binary : Bool) (points : ℕ) → Decides (section binary points) (section_list_at binary points)
decides-section binary points =
    decides-follow (count_from 0) _ (count_from_at 0) _ (decides-count_from 0) (λ n.
    decides-follow (section_size n) _ (section_size_at n) _ (decides-section_size n) (λ size.
    decides-follow (section_start binary) _ (section_start_at binary) _ (decides-section_start binary) (λ started. decides-cells binary points n size)))

-- ---- as many as were asked for

times-length : {V : Type 0} (rule : Rule V) (old new : Reading) (xs : List V) (n : ℕ) → AreTimes rule old new xs n → length xs ≡ n
times-length rule old new [] zero h = refl
times-length rule old new [] (suc n) h = absurd h
times-length rule old new (x ∷ xs) zero h = absurd h
times-length rule old new (x ∷ xs) (suc n) h = ap suc (times-length rule h.0 new xs n h.2)

indices-length : (binary : Bool) (points n : ℕ) (r after : Reading) (xs : List ℕ) → times_at (index_at binary points) n r ≡ Ok (xs, after) → length xs ≡ n
indices-length binary points n r after xs e =
    times-length (index binary points) r after xs n ((decides-times (index binary points) (index_at binary points) (decides-index binary points) n).found r (xs, after) e)

pub cells-length : (binary : Bool) (points n left : ℕ) (old new : Reading) (all : List (List ℕ)) → (cells binary points n left).is old new all → length all ≡ n
cells-length binary points zero left old new all h = ap length h.1
cells-length binary points (suc n) left old new all h =
    let others : (follow (cells binary points n (left - suc (length h.0))) (λ others. gives (h.0 ∷ others))).is h.1 new all = h.3 in
    ap length others.3.1 ∙ ap suc (cells-length binary points n (left - suc (length h.0)) h.1 others.1 others.0 others.2)

-- ---- from lists of indices to numbers

indices_step : (binary : Bool) (points n : ℕ) (front : List ℕ) (read : Result (ℕ × Reading) FileFault)
    → ((front : List ℕ) (r : Reading) → indices_at binary points n front r ≡ with_front front (times_at (index_at binary points) n r))
    → (read >>= λ i. indices_at binary points n (front ++ i.0 ∷ []) i.1) ≡ with_front front (read >>= λ i. times_at (index_at binary points) n i.1 >>= λ xs. Ok (i.0 ∷ xs.0, xs.1))
indices_step binary points n front (Ok i) later = later (front ++ i.0 ∷ []) i.1 ∙ sym (regroup front i.0 (times_at (index_at binary points) n i.1))
indices_step binary points n front (Err f) later = refl

indices-list : (binary : Bool) (points n : ℕ) (front : List ℕ) (r : Reading) → indices_at binary points n front r ≡ with_front front (times_at (index_at binary points) n r)
unfolding indices_at
indices-list binary points zero front r = ap (λ (ns : List ℕ). Ok (ns, r)) (sym (append-nil front))
indices-list binary points (suc n) front r = indices_step binary points n front (index_at binary points r) (indices-list binary points n)

-- the numbers of a cell behind those before
abbrev with_cell : List ℕ → List ℕ × Reading → Numbered
with_cell front x = Ok (front ++ cell_numbers x.0, x.1)

cell_counted : (front : List ℕ) (n : ℕ) (read : Numbered) → ((xs : List ℕ) (after : Reading) → read ≡ Ok (xs, after) → length xs ≡ n)
    → with_front (front ++ n ∷ []) read ≡ (read >>= with_cell front)
cell_counted front n (Ok x) long =
    let e = long x.0 x.1 refl in
    rw (← e) (ap (λ (ns : List ℕ). Ok (ns, x.1)) (simp append_assoc))
cell_counted front n (Err f) long = refl

cell_tested : (binary : Bool) (points n place : ℕ) (test : Bool) (front : List ℕ) (r : Reading)
    → (guard test Count place >>= λ is. indices_at binary points n (front ++ n ∷ []) r) ≡ ((guard test Count place >>= λ is. times_at (index_at binary points) n r) >>= with_cell front)
cell_tested binary points n place true front r =
    indices-list binary points n (front ++ n ∷ []) r ∙ cell_counted front n (times_at (index_at binary points) n r) (λ xs after e. indices-length binary points n r after xs e)
cell_tested binary points n place false front r = refl

cell_read : (binary : Bool) (points cells left : ℕ) (front : List ℕ) (read : Result ((ℕ × ℤ) × Reading) FileFault)
    → (read >>= λ c. guard (is_cell_count cells left c.0.1) Count c.0.0 >>= λ is. indices_at binary points (unsigned_abs c.0.1) (front ++ unsigned_abs c.0.1 ∷ []) c.1)
    ≡ ((read >>= λ c. guard (is_cell_count cells left c.0.1) Count c.0.0 >>= λ is. times_at (index_at binary points) (unsigned_abs c.0.1) c.1) >>= with_cell front)
cell_read binary points cells left front (Ok c) = cell_tested binary points (unsigned_abs c.0.1) c.0.0 (is_cell_count cells left c.0.1) front c.1
cell_read binary points cells left front (Err f) = refl

cell-list : (binary : Bool) (points cells left : ℕ) (front : List ℕ) (r : Reading) → cell_at binary points cells left front r ≡ (cell_list_at binary points cells left r >>= with_cell front)
unfolding cell_at
cell-list binary points cells left front r = cell_read binary points cells left front (section_number_at binary r)

-- the numbers of cells behind those before
abbrev with_cells : List ℕ → List (List ℕ) × Reading → Numbered
with_cells front x = Ok (front ++ numbers_of_cells x.0, x.1)

cells_regroup : (front first : List ℕ) (read : Result (List (List ℕ) × Reading) FileFault)
    → (read >>= with_cells (front ++ cell_numbers first)) ≡ ((read >>= λ xs. Ok (first ∷ xs.0, xs.1)) >>= with_cells front)
cells_regroup front first (Ok x) = ap (λ (ns : List ℕ). Ok (ns, x.1)) (simp append_assoc)
cells_regroup front first (Err f) = refl

left_behind : (size : ℕ) (front first : List ℕ) → size - length (front ++ cell_numbers first) ≡ size - length front - suc (length first)
left_behind size front first =
    let long : length (front ++ cell_numbers first) ≡ length front + suc (length first) = length-append front (cell_numbers first) in
    omega arith

cells_step : (binary : Bool) (points size n : ℕ) (front : List ℕ) (read : Numbered)
    → ((front : List ℕ) (r : Reading) → cells_at binary points size n front r ≡ (cells_list_at binary points n (size - length front) r >>= with_cells front))
    → ((read >>= with_cell front) >>= λ x. cells_at binary points size n x.0 x.1)
    ≡ ((read >>= λ x. cells_list_at binary points n (size - length front - suc (length x.0)) x.1 >>= λ xs. Ok (x.0 ∷ xs.0, xs.1)) >>= with_cells front)
cells_step binary points size n front (Ok x) later =
    later (front ++ cell_numbers x.0) x.1
    ∙ ap (λ (left : ℕ). cells_list_at binary points n left x.1 >>= with_cells (front ++ cell_numbers x.0)) (left_behind size front x.0)
    ∙ cells_regroup front x.0 (cells_list_at binary points n (size - length front - suc (length x.0)) x.1)
cells_step binary points size n front (Err f) later = refl

cells-list : (binary : Bool) (points size n : ℕ) (front : List ℕ) (r : Reading) → cells_at binary points size n front r ≡ (cells_list_at binary points n (size - length front) r >>= with_cells front)
unfolding cells_at
cells-list binary points size zero front r = ap (λ (ns : List ℕ). Ok (ns, r)) (sym (append-nil front))
cells-list binary points size (suc n) front r =
    ap (λ (o : Numbered). o >>= λ x. cells_at binary points size n x.0 x.1) (cell-list binary points (suc n) (size - length front) front r)
    ∙ cells_step binary points size n front (cell_list_at binary points (suc n) (size - length front) r) (cells-list binary points size n)

-- ---- a section

-- a section by its numbers
abbrev pub as_numbers : List (List ℕ) × Reading → Result ((ℕ × List ℕ) × Reading) FileFault
as_numbers x = Ok ((length x.0, numbers_of_cells x.0), x.1)

section_counted : (n : ℕ) (read : Result (List (List ℕ) × Reading) FileFault) → ((all : List (List ℕ)) (after : Reading) → read ≡ Ok (all, after) → length all ≡ n)
    → ((read >>= with_cells []) >>= λ numbers. Ok ((n, numbers.0), numbers.1)) ≡ (read >>= as_numbers)
section_counted n (Ok x) long = let e = long x.0 x.1 refl in rw (← e) refl
section_counted n (Err f) long = refl

section_filled : (binary : Bool) (points n size : ℕ) (r : Reading)
    → (cells_at binary points size n [] r >>= λ numbers. Ok ((n, numbers.0), numbers.1)) ≡ (cells_list_at binary points n size r >>= as_numbers)
section_filled binary points n size r =
    let all : size - length {A = ℕ} [] ≡ size = omega arith in
    let list : cells_at binary points size n [] r ≡ (cells_list_at binary points n size r >>= with_cells []) = cells-list binary points size n [] r ∙ ap (λ (left : ℕ). cells_list_at binary points n left r >>= with_cells []) all in
    ap (λ (o : Numbered). o >>= λ numbers. Ok ((n, numbers.0), numbers.1)) list
    ∙ section_counted n (cells_list_at binary points n size r) (λ all after e. cells-length binary points n size r after all ((decides-cells binary points n size).found r (all, after) e))

section_started : (binary : Bool) (points n size : ℕ) (read : Result (Unit {0} × Reading) FileFault)
    → (read >>= λ started. cells_at binary points size n [] started.1 >>= λ numbers. Ok ((n, numbers.0), numbers.1)) ≡ ((read >>= λ started. cells_list_at binary points n size started.1) >>= as_numbers)
section_started binary points n size (Ok started) = section_filled binary points n size started.1
section_started binary points n size (Err f) = refl

section_sized : (binary : Bool) (points n : ℕ) (read : Result (ℕ × Reading) FileFault)
    → (read >>= λ size. section_start_at binary size.1 >>= λ started. cells_at binary points size.0 n [] started.1 >>= λ numbers. Ok ((n, numbers.0), numbers.1))
    ≡ ((read >>= λ size. section_start_at binary size.1 >>= λ started. cells_list_at binary points n size.0 started.1) >>= as_numbers)
section_sized binary points n (Ok size) = section_started binary points n size.0 (section_start_at binary size.1)
section_sized binary points n (Err f) = refl

section_begun : (binary : Bool) (points : ℕ) (read : Result (ℕ × Reading) FileFault)
    → (read >>= λ n. section_size_at n.0 n.1 >>= λ size. section_start_at binary size.1 >>= λ started. cells_at binary points size.0 n.0 [] started.1 >>= λ numbers. Ok ((n.0, numbers.0), numbers.1))
    ≡ ((read >>= λ n. section_size_at n.0 n.1 >>= λ size. section_start_at binary size.1 >>= λ started. cells_list_at binary points n.0 size.0 started.1) >>= as_numbers)
section_begun binary points (Ok n) = section_sized binary points n.0 (section_size_at n.0 n.1)
section_begun binary points (Err f) = refl

pub section_at-list : (binary : Bool) (points : ℕ) (r : Reading) → section_at binary points r ≡ (section_list_at binary points r >>= as_numbers)
unfolding section_at
section_at-list binary points r = section_begun binary points (count_from_at 0 r)

pub decides-section_numbers : (binary : Bool) (points : ℕ) → Decides (section_numbers binary points) (section_at binary points)
decides-section_numbers binary points =
    decides-same (section_numbers binary points) (λ r. section_list_at binary points r >>= as_numbers) (section_at binary points) (section_at-list binary points)
    (decides-follow (section binary points) _ (section_list_at binary points) _ (decides-section binary points) (λ all. decides-gives (length all, numbers_of_cells all)))

-- a step in front of two readers, of which one gives what the other gives and a last step makes of it
pub in_front : {A B C : Type 0} (read : Result A FileFault) (f : A → Result B FileFault) (last : B → Result C FileFault) (g : A → Result C FileFault) → ((x : A) → g x ≡ (f x >>= last)) → (read >>= g) ≡ ((read >>= f) >>= last)
in_front (Ok x) f last g e = e x
in_front (Err fault) f last g e = refl
