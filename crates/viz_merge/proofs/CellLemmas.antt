-- Cells by leaves, sheet after sheet.
use Rattle.std.proofs.Common.{◌≡◌, ℕ, zero, suc, ◌+◌, ◌<◌, ◌≤◌, Bool, cond, List, [], ◌∷◌, ◌++◌, length, get_or, map, take, drop, refl, sym, ap, ap₂, subst, ◌∙◌, append_assoc, append-nil, arith}
use Rattle.std.specs.List.{All, Contains, filter, flat_map}
use Rattle.std.proofs.lemmas.List.{get_or_default, get_or-append-add, get_or_append_left, get_or-drop, get_or-map, length-append, length-map}
use Rattle.std.proofs.lemmas.List.Elements.{All-head, All-tail, filter-append}
use Rattle.viz_fraction.specs.Points.{Point}
use Rattle.viz_sheet.specs.Sheet.{SheetData, AreAscending, IsSheet}
use Rattle.viz_sheet.specs.Ranked.{AreRanks, IsCell, by_names, rank_of, ranks_of}
use Rattle.viz_sheet.specs.Steps.Lookup.{looked_up}
use Rattle.viz_sheet.proofs.RankLemmas.{rank-at, ranks-at}
use Rattle.viz_meaning.specs.Section.{point_of, zero_point}
use Rattle.viz_meaning.proofs.SectionLemmas.{corners}
use Rattle.viz_mesh_meaning.specs.Merge.{all_points, cells_by_leaves, firsts, group_of, has_no_repeat, leaf_in}
use Rattle.viz_mesh_meaning.proofs.CellLemmas.{point-at}
use Rattle.viz_merge.specs.Steps.Cells.{AreNumbers, left_by_names, left_cells}

-- ---- cells by ranks and by names

ranks-of_names : (names : List (List ℕ)) (cells : List (List ℕ)) → AreAscending names → All (IsCell (length names)) cells → map (ranks_of names) (by_names names cells) ≡ cells
ranks-of_names names [] a h = refl
ranks-of_names names (c ∷ cs) a h =
    ap₂ (λ x y. x ∷ y) (sym (ranks-at names c a (All-head (IsCell (length names)) c cs h).below)) (ranks-of_names names cs a (All-tail (IsCell (length names)) c cs h))

-- what is left of the cells by ranks is what is left of those by names
pub left-named : (s : SheetData) (numbers : List ℕ) (cells : List (List ℕ)) → IsSheet s → AreRanks s.names s.points cells → by_names s.names cells ≡ s.cells → left_cells numbers cells ≡ left_by_names numbers s
left-named s numbers cells h ranks named =
    ap (left_cells numbers) (sym (ranks-of_names s.names cells h.ascending ranks.rule.each) ∙ ap (map (ranks_of s.names)) named)

pub cells-for : (s : SheetData) (cells : List (List ℕ)) (numbers : List ℕ) → IsSheet s → AreRanks s.names s.points cells → length s.points ≤ length numbers → All (IsCell (length numbers)) cells
cells-for s cells numbers h ranks l k d kl =
    let cell = ranks.rule.each k d kl in
    record {
      some = cell.some;
      most = cell.most;
      below = λ i e il. let b = cell.below i e il in omega (arith, h.matched, l, b);
      apart = cell.apart;
    }

-- ---- the points of a sheet among all

flat-at : {X Y : Type 0} (f : X → List Y) (xs : List X) (i : ℕ) (x : X) (r : ℕ) (d : Y) → i < length xs → x ≡ get_or xs i x → r < length (f x) → get_or (flat_map f xs) (length (flat_map f (take i xs)) + r) d ≡ get_or (f x) r d
flat-at f [] i x r d l is below = absurd (omega arith)
flat-at f (y ∷ ys) zero x r d l is below =
    ap (λ n. get_or (f y ++ flat_map f ys) n d) {x = 0 + r} {y = r} (omega arith)
    ∙ get_or_append_left (f y) (flat_map f ys) d r (subst (λ z. r < length (f z)) is below) ∙ ap (λ z. get_or (f z) r d) (sym is)
flat-at f (y ∷ ys) (suc i) x r d l is below =
    ap (λ n. get_or (f y ++ flat_map f ys) n d) {x = length (f y ++ flat_map f (take i ys)) + r} {y = length (f y) + (length (flat_map f (take i ys)) + r)} (omega (arith, length-append (f y) (flat_map f (take i ys))))
    ∙ get_or-append-add (f y) (flat_map f ys) (length (flat_map f (take i ys)) + r) d ∙ flat-at f ys i x r d (omega arith) is below

pub flat-more : {X Y : Type 0} (f : X → List Y) (xs : List X) (i : ℕ) (x : X) → i < length xs → x ≡ get_or xs i x → flat_map f (take (i + 1) xs) ≡ flat_map f (take i xs) ++ f x
flat-more f [] i x l is = absurd (omega arith)
flat-more f (y ∷ ys) zero x l is = append-nil (f y) ∙ ap f (sym is)
flat-more f (y ∷ ys) (suc i) x l is =
    ap (λ n. flat_map f (take n (y ∷ ys))) {x = suc i + 1} {y = suc (i + 1)} (omega arith)
    ∙ ap (λ t. f y ++ t) (flat-more f ys i x (omega arith) is) ∙ sym (append_assoc (f y) (flat_map f (take i ys)) (f x))

flat-most : {X Y : Type 0} (f : X → List Y) (xs : List X) (i : ℕ) → length (flat_map f (take i xs)) ≤ length (flat_map f xs)
flat-most f [] zero = omega arith
flat-most f [] (suc i) = omega arith
flat-most f (x ∷ xs) zero = omega arith
flat-most f (x ∷ xs) (suc i) = omega (arith, length-append (f x) (flat_map f (take i xs)), length-append (f x) (flat_map f xs), flat-most f xs i)

abbrev pub points_of : SheetData → List Point
points_of s = s.points

-- the points of one more sheet
pub points-more : (sheets : List SheetData) (i : ℕ) (s : SheetData) → i < length sheets → s ≡ get_or sheets i s → all_points (take (i + 1) sheets) ≡ all_points (take i sheets) ++ s.points
points-more sheets i s l is = flat-more points_of sheets i s l is

pub points-room : (sheets : List SheetData) (i : ℕ) (s : SheetData) → i < length sheets → s ≡ get_or sheets i s → length (all_points (take i sheets)) + length s.points ≤ length (all_points sheets)
points-room sheets i s l is = omega (arith, ap length (points-more sheets i s l is), length-append (all_points (take i sheets)) s.points, flat-most points_of sheets (i + 1))

-- the point of a name of a sheet among all
pub among-all : (sheets : List SheetData) (i : ℕ) (s : SheetData) (r : ℕ) → IsSheet s → i < length sheets → s ≡ get_or sheets i s → r < length s.names
    → (length (all_points (take i sheets)) + r < length (all_points sheets)) × (get_or (all_points sheets) (length (all_points (take i sheets)) + r) zero_point ≡ point_of s (get_or s.names r []))
among-all sheets i s r h l is below =
    let in_sheet : r < length s.points = omega (arith, h.matched, below) in (
      omega (arith, points-room sheets i s l is, in_sheet),
      flat-at points_of sheets i s r zero_point l is in_sheet ∙ sym (point-at s r zero_point h.ascending h.matched below),
    )

-- ---- leaves

leaf-at : (sheets : List SheetData) (i : ℕ) (s : SheetData) (numbers : List ℕ) (r : ℕ) → IsSheet s → i < length sheets → s ≡ get_or sheets i s → AreNumbers (all_points sheets) numbers → r < length s.names
    → get_or (drop (length (all_points (take i sheets))) numbers) r 0 ≡ leaf_in (firsts (all_points sheets)) s (get_or s.names r [])
leaf-at sheets i s numbers r h l is n below =
    let all = all_points sheets in
    let from = length (all_points (take i sheets)) in
    let at = among-all sheets i s r h l is below in
    get_or-drop from numbers r 0 ∙ ap (λ ns. get_or ns (from + r) 0) n.each ∙ get_or-map (group_of (firsts all)) all (from + r) zero_point 0 at.0
    ∙ ap (group_of (firsts all)) at.1

-- a name of a sheet's cell is at a rank, so what is said of ranks is said of it
named-leaves : (sheets : List SheetData) (i : ℕ) (s : SheetData) (numbers : List ℕ) (cell : List (List ℕ)) → IsSheet s → i < length sheets → s ≡ get_or sheets i s → AreNumbers (all_points sheets) numbers → All (Contains s.names) cell
    → looked_up (drop (length (all_points (take i sheets))) numbers) (ranks_of s.names cell) ≡ map (leaf_in (firsts (all_points sheets)) s) cell
unfolding looked_up
named-leaves sheets i s numbers [] h l is n among = refl
named-leaves sheets i s numbers (m ∷ ms) h l is n among =
    let c = All-head (Contains s.names) m ms among in
    let name : get_or s.names c.0 [] ≡ m = get_or_default s.names c.0 [] m c.1 ∙ c.2 in
    let rank : rank_of s.names m ≡ c.0 = ap (rank_of s.names) (sym name) ∙ rank-at s.names c.0 h.ascending c.1 in
    ap₂ (λ a b. a ∷ b)
    (ap (λ r. get_or (drop (length (all_points (take i sheets))) numbers) r 0) rank ∙ leaf-at sheets i s numbers c.0 h l is n c.1 ∙ ap (leaf_in (firsts (all_points sheets)) s) name)
    (named-leaves sheets i s numbers ms h l is n (All-tail (Contains s.names) m ms among))

-- the cells of one more sheet
pub left-is : (sheets : List SheetData) (i : ℕ) (s : SheetData) (numbers : List ℕ) → IsSheet s → i < length sheets → s ≡ get_or sheets i s → AreNumbers (all_points sheets) numbers
    → left_by_names (drop (length (all_points (take i sheets))) numbers) s ≡ filter has_no_repeat (cells_by_leaves (firsts (all_points sheets)) s)
left-is sheets i s numbers h l is n = ap (filter has_no_repeat) (each s.cells (corners s h))
  where
    each : (cells : List (List (List ℕ))) → All (All (Contains s.names)) cells
        → map (looked_up (drop (length (all_points (take i sheets))) numbers)) (map (ranks_of s.names) cells) ≡ map (map (leaf_in (firsts (all_points sheets)) s)) cells
    each [] a = refl
    each (c ∷ cs) a = ap₂ (λ x y. x ∷ y) (named-leaves sheets i s numbers c h l is n (All-head (All (Contains s.names)) c cs a)) (each cs (All-tail (All (Contains s.names)) c cs a))

-- ---- a cell or none

pub filter-one_more : (p : List ℕ → Bool) (cells : List (List ℕ)) (i : ℕ) (f : List ℕ → List ℕ) (cell : List ℕ) (old new : List (List ℕ)) (front : List (List ℕ)) → i < length cells → cell ≡ get_or cells i [] → old ≡ front ++ filter p (map f (take i cells))
    → new ≡ old ++ cond (p (f cell)) (f cell ∷ []) [] → new ≡ front ++ filter p (map f (take (i + 1) cells))
filter-one_more p cells i f cell old new front l is made more =
    more ∙ ap (λ t. t ++ cond (p (f cell)) (f cell ∷ []) []) made ∙ append_assoc front (filter p (map f (take i cells))) (cond (p (f cell)) (f cell ∷ []) [])
    ∙ ap (λ t. front ++ t) (sym (filter-append p (map f (take i cells)) (f cell ∷ [])) ∙ ap (filter p) (sym (map-one cells i l is)))
  where
    map-one : (xs : List (List ℕ)) (j : ℕ) → j < length xs → cell ≡ get_or xs j [] → map f (take (j + 1) xs) ≡ map f (take j xs) ++ f cell ∷ []
    map-one [] j k e = absurd (omega arith)
    map-one (x ∷ xs) zero k e = ap (λ y. f y ∷ []) (sym e)
    map-one (x ∷ xs) (suc j) k e = ap (λ n. map f (take n (x ∷ xs))) {x = suc j + 1} {y = suc (j + 1)} (omega arith) ∙ ap (λ t. f x ∷ t) (map-one xs j (omega arith) e)

pub filter-one_sheet : (sheets : List SheetData) (i : ℕ) (s : SheetData) (g : SheetData → List (List ℕ)) (p : List ℕ → Bool) (old new : List (List ℕ)) → i < length sheets → s ≡ get_or sheets i s → old ≡ filter p (flat_map g (take i sheets)) → new ≡ old ++ filter p (g s)
    → new ≡ filter p (flat_map g (take (i + 1) sheets))
filter-one_sheet sheets i s g p old new l is made more =
    more ∙ ap (λ t. t ++ filter p (g s)) made ∙ sym (filter-append p (flat_map g (take i sheets)) (g s)) ∙ ap (filter p) (sym (flat-more g sheets i s l is))

pub numbers-size : (ps : List Point) (numbers : List ℕ) → AreNumbers ps numbers → length numbers ≡ length ps
numbers-size ps numbers n =
    let count : length (map (group_of (firsts ps)) ps) ≡ length ps = simp length-map in
    ap length n.each ∙ count
