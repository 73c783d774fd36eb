-- The cells of sheets by indices: 1 to 4 different ones, each of a point.
use Rattle.std.proofs.Common.{◌≡◌, ◌≢◌, ℕ, ◌+◌, ◌<◌, ◌≤◌, List, [], ◌∷◌, ◌++◌, length, get_or, map, refl, sym, ap, subst, ◌∙◌, arith}
use Rattle.std.specs.List.{All, Contains, flat_map}
use Rattle.std.proofs.lemmas.List.{length-append, get_or_default}
use Rattle.std.proofs.lemmas.List.Elements.{All-nil, All-cons, All-head, All-tail, All-append, All-weaker, Contains-append_left, Contains-append_right}
use Rattle.viz_sheet.specs.Sheet.{SheetData, IsSheet, IsNamedCell, AreApart, AreAscending}
use Rattle.viz_sheet.specs.Ranked.{IsCell, rank_of, ranks_of}
use Rattle.viz_sheet.proofs.MemberLemmas.{here, there}
use Rattle.viz_sheet.proofs.RankLemmas.{rank-at}
use Rattle.viz_mesh_write.specs.Cells.{points_of, moved, indices_in, cells_from, cells_of}
use Rattle.viz_mesh_write.proofs.TallyLemmas.{length-moved}

-- ---- ranks of names

rank_below : (names : List (List ℕ)) (n : List ℕ) → AreAscending names → Contains names n → rank_of names n < length names
rank_below names n s c =
    let same : get_or names c.0 [] ≡ n = get_or_default names c.0 [] n c.1 ∙ c.2 in
    let rank : rank_of names n ≡ c.0 = sym (ap (rank_of names) same) ∙ rank-at names c.0 s c.1 in
    let below = c.1 in
    omega (arith, rank, below)

-- the name of a rank
name_again : (names : List (List ℕ)) (n : List ℕ) → AreAscending names → Contains names n → get_or names (rank_of names n) [] ≡ n
name_again names n s c =
    let same : get_or names c.0 [] ≡ n = get_or_default names c.0 [] n c.1 ∙ c.2 in
    let rank : rank_of names n ≡ c.0 = sym (ap (rank_of names) same) ∙ rank-at names c.0 s c.1 in
    ap (λ (k : ℕ). get_or names k []) rank ∙ same

-- different names have different ranks
ranks_differ : (names : List (List ℕ)) (n m : List ℕ) → AreAscending names → Contains names n → Contains names m → n ≢ m → rank_of names n ≢ rank_of names m
ranks_differ names n m s c d differ e =
    differ (sym (name_again names n s c) ∙ ap (λ (k : ℕ). get_or names k []) e ∙ name_again names m s d)

-- ---- a cell

-- each of these names is one of the others
abbrev AreAmong : List (List ℕ) → List (List ℕ) → Type 0
AreAmong names cell = (n : List ℕ) → Contains cell n → Contains names n

cell_below : (first count : ℕ) (names cell : List (List ℕ)) → AreAscending names → length names ≡ count → AreAmong names cell → All (λ i. i < first + count) (moved first (ranks_of names cell))
cell_below first count names [] s e among = All-nil (λ i. i < first + count)
cell_below first count names (n ∷ ns) s e among =
    let below = rank_below names n s (among n (here n ns)) in
    All-cons (λ i. i < first + count) (first + rank_of names n) (moved first (ranks_of names ns)) (omega (arith, below, e)) (cell_below first count names ns s e (λ m c. among m (there n ns m c)))

others_differ : (first : ℕ) (names : List (List ℕ)) (n : List ℕ) (ns : List (List ℕ)) → AreAscending names → Contains names n → AreAmong names ns → All (λ m. n ≢ m) ns → All (λ i. (first + rank_of names n) ≢ i) (moved first (ranks_of names ns))
others_differ first names n [] s c among apart = All-nil (λ i. (first + rank_of names n) ≢ i)
others_differ first names n (m ∷ ms) s c among apart =
    let differ = ranks_differ names n m s c (among m (here m ms)) (All-head (λ x. n ≢ x) m ms apart) in
    All-cons (λ i. (first + rank_of names n) ≢ i) (first + rank_of names m) (moved first (ranks_of names ms)) (λ e. differ (omega (arith, e)))
    (others_differ first names n ms s c (λ x d. among x (there m ms x d)) (All-tail (λ x. n ≢ x) m ms apart))

cell_apart : (first : ℕ) (names cell : List (List ℕ)) → AreAscending names → AreAmong names cell → AreApart cell → AreApart (moved first (ranks_of names cell))
cell_apart first names [] s among apart = tt
cell_apart first names (n ∷ ns) s among apart =
    let later : AreAmong names ns = λ m c. among m (there n ns m c) in
    (others_differ first names n ns s (among n (here n ns)) later apart.0, cell_apart first names ns s later apart.1)

cell_is : (first count : ℕ) (names cell : List (List ℕ)) → AreAscending names → length names ≡ count → AreAmong names cell → IsNamedCell cell → IsCell (first + count) (moved first (ranks_of names cell))
cell_is first count names cell s e among is = record {
  some = subst (λ (n : ℕ). 1 ≤ n) (sym (length-moved first names cell)) is.some;
  most = subst (λ (n : ℕ). n ≤ 4) (sym (length-moved first names cell)) is.most;
  below = cell_below first count names cell s e among;
  apart = cell_apart first names cell s among is.apart;
}

-- ---- the cells of a sheet

cells_are : (first count : ℕ) (names : List (List ℕ)) (cells : List (List (List ℕ))) → AreAscending names → length names ≡ count → ((n : List ℕ) → Contains (flat_map (λ cell. cell) cells) n → Contains names n) → All IsNamedCell cells
    → All (IsCell (first + count)) (map (λ cell. moved first (ranks_of names cell)) cells)
cells_are first count names [] s e among is = All-nil (IsCell (first + count))
cells_are first count names (c ∷ cs) s e among is =
    let rest = flat_map (λ (cell : List (List ℕ)). cell) cs in
    All-cons (IsCell (first + count)) (moved first (ranks_of names c)) (map (λ cell. moved first (ranks_of names cell)) cs)
    (cell_is first count names c s e (λ n d. among n (Contains-append_left c rest n d)) (All-head IsNamedCell c cs is))
    (cells_are first count names cs s e (λ n d. among n (Contains-append_right c rest n d)) (All-tail IsNamedCell c cs is))

-- ---- all cells

more_points : (n m : ℕ) (cells : List (List ℕ)) → n ≤ m → All (IsCell n) cells → All (IsCell m) cells
more_points n m cells le h =
    All-weaker (IsCell n) (IsCell m) (λ cell is. record {
      some = is.some;
      most = is.most;
      below = All-weaker (λ i. i < n) (λ i. i < m) (λ i lt. omega (arith, lt, le)) cell is.below;
      apart = is.apart;
    }) cells h

cells_from-are : (first : ℕ) (sheets : List SheetData) → All IsSheet sheets → All (IsCell (first + length (points_of sheets))) (cells_from first sheets)
cells_from-are first [] h = All-nil (IsCell (first + 0))
cells_from-are first (s ∷ sheets) h =
    let is = All-head IsSheet s sheets h in
    let long = length-append s.points (points_of sheets) in
    let all = first + length (points_of (s ∷ sheets)) in
    let next = first + length s.points in
    All-append (IsCell all) (indices_in first s) (cells_from next sheets)
    (more_points (first + length s.points) all (indices_in first s) (omega (arith, long)) (cells_are first (length s.points) s.names s.cells is.ascending (sym is.matched) (λ n c. (is.used n).1 c) is.each))
    (more_points (next + length (points_of sheets)) all (cells_from next sheets) (omega (arith, long)) (cells_from-are next sheets (All-tail IsSheet s sheets h)))

-- the cells of sheets are cells of their points
pub cells-are : (sheets : List SheetData) → All IsSheet sheets → All (IsCell (length (points_of sheets))) (cells_of sheets)
cells-are sheets h =
    more_points (0 + length (points_of sheets)) (length (points_of sheets)) (cells_of sheets) (omega arith) (cells_from-are 0 sheets h)

-- ---- no points, no cells

pub no_points-no_cells : (cells : List (List ℕ)) → All (IsCell 0) cells → cells ≡ []
no_points-no_cells [] h = refl
no_points-no_cells ([] ∷ cells) h = let some = (All-head (IsCell 0) [] cells h).some in absurd (omega (arith, some))
no_points-no_cells ((i ∷ is) ∷ cells) h = let below = All-head (λ j. j < 0) i is (All-head (IsCell 0) (i ∷ is) cells h).below in absurd (omega (arith, below))

nothing_in : {X : Type 0} (xs : List X) → ((x : X) → Contains xs x → ⊥) → xs ≡ []
nothing_in [] h = refl
nothing_in (x ∷ xs) h = absurd (h x (here x xs))

none_before : {X : Type 0} (xs ys : List X) → xs ++ ys ≡ [] → length xs ≡ 0
none_before [] ys e = refl
none_before (x ∷ xs) ys e = let n = ap length e in absurd (omega (arith, n))

none_behind : {X : Type 0} (xs ys : List X) → xs ++ ys ≡ [] → ys ≡ []
none_behind [] ys e = e
none_behind (x ∷ xs) ys e = let n = ap length e in absurd (omega (arith, n))

unmapped : {X Y : Type 0} (f : X → Y) (xs : List X) → length (map f xs) ≡ 0 → xs ≡ []
unmapped f [] e = refl
unmapped f (x ∷ xs) e = absurd (omega (arith, e))

no_length : {X : Type 0} (xs : List X) → length xs ≡ 0 → xs ≡ []
no_length [] e = refl
no_length (x ∷ xs) e = absurd (omega (arith, e))

-- a sheet without cells has no points
empty_sheet : (s : SheetData) → IsSheet s → s.cells ≡ [] → s.points ≡ []
empty_sheet s is none =
    let names : s.names ≡ [] = nothing_in s.names (λ n c.
    let in_cells = subst (λ (cells : List (List (List ℕ))). Contains (flat_map (λ cell. cell) cells) n) none ((is.used n).0 c) in
    let below = in_cells.1 in omega (arith, below)) in
    no_length s.points (is.matched ∙ ap length names)

no_cells_from : (first : ℕ) (sheets : List SheetData) → All IsSheet sheets → cells_from first sheets ≡ [] → points_of sheets ≡ []
no_cells_from first [] h e = refl
no_cells_from first (s ∷ sheets) h e =
    let here_none = unmapped (λ cell. moved first (ranks_of s.names cell)) s.cells (none_before (indices_in first s) (cells_from (first + length s.points) sheets) e) in
    let points = empty_sheet s (All-head IsSheet s sheets h) here_none in
    let rest = no_cells_from (first + length s.points) sheets (All-tail IsSheet s sheets h) (none_behind (indices_in first s) (cells_from (first + length s.points) sheets) e) in
    ap (λ (ps : List _). ps ++ points_of sheets) points ∙ rest

-- without cells there are no points
pub no_cells-no_points : (sheets : List SheetData) → All IsSheet sheets → cells_of sheets ≡ [] → points_of sheets ≡ []
no_cells-no_points sheets h e = no_cells_from 0 sheets h e
