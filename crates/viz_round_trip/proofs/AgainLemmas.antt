-- The mesh of what is written, point by point and cell by cell.
use Rattle.std.proofs.Common.{◌≡◌, ℕ, zero, suc, ℤ, pos, ◌+◌, ◌-◌, ◌*◌, ◌^◌, ◌<◌, ◌≤◌, ◌==◌, ⊎_elim, Bool, true, false, List, [], ◌∷◌, ◌++◌, length, get_or, map, refl, sym, ap, ap₂, subst, ◌∙◌, arith}
use Rattle.std.specs.Prelude.{cond, Some, ◌*ℤ◌, if◌then◌else◌}
use Rattle.std.specs.List.{All, Contains, flat_map, range_with_len}
use Rattle.std.proofs.lemmas.Bool.{or_parts, cases_lt, eq-eqb, eqb-false}
use Rattle.std.proofs.lemmas.List.{length-map, get_or-map, length-append}
use Rattle.std.proofs.lemmas.List.Concat.{flat_map-append}
use Rattle.std.proofs.lemmas.List.Elements.{All-head, All-tail, All-append, All-contains, Contains-get_or, Contains-append_left, Contains-append_right, Contains-append_cases}
use Rattle.std.proofs.lemmas.List.FromFn.{length-range_with_len}
use Rattle.viz_fraction.specs.Points.{Point, numbers, reduced}
use Rattle.viz_fraction.specs.Decimals.{fixed_of}
use Rattle.viz_file_mesh.specs.FileMesh.{file_point, file_points}
use Rattle.viz_sheet.specs.Sheet.{SheetData, IsSheet}
use Rattle.viz_sheet.specs.Ranked.{IsCell, rank_of, ranks_of, by_names, leaf_names}
use Rattle.viz_sheet.specs.Kept.{kept, AreMarks, sheet_with}
use Rattle.viz_sheet.proofs.MemberLemmas.{no_member}
use Rattle.viz_sheet.proofs.RankLemmas.{rank-at}
use Rattle.viz_sheet.proofs.UsedLemmas.{marked_is}
use Rattle.viz_mesh_write.specs.Cells.{points_of, moved, indices_in, cells_from, cells_of, of_size, has_tetrahedra}
use Rattle.viz_mesh_write.specs.MeshText.{coordinates, scalar}
use Rattle.viz_round_trip.specs.MeshTrip.{points_in_file, scalars_in_file, by_kinds, read_of, rounded, written_again}
use Rattle.viz_round_trip.proofs.IndexLemmas.{cells-are}
use Rattle.viz_round_trip.proofs.PieceLemmas.{all-of_size}

-- ---- members of members

abbrev pub members : {X : Type 0} → List (List X) → List X
members lists = flat_map (λ list. list) lists

contains-map : {X Y : Type 0} (f : X → Y) (xs : List X) (x : X) → Contains xs x → Contains (map f xs) (f x)
contains-map f xs x c =
    let long = length-map xs f in
    let below = c.1 in
    (c.0, omega (arith, long, below), get_or-map f xs c.0 x (f x) c.1 ∙ ap f c.2)

moved_name : (first : ℕ) (names cell : List (List ℕ)) (n : List ℕ) → Contains cell n → Contains (moved first (ranks_of names cell)) (first + rank_of names n)
moved_name first names cell n c =
    contains-map (λ r. first + r) (ranks_of names cell) (rank_of names n) (contains-map (rank_of names) cell n c)

moved_names : (first : ℕ) (names : List (List ℕ)) (cells : List (List (List ℕ))) (n : List ℕ) → Contains (members cells) n → Contains (members (map (λ cell. moved first (ranks_of names cell)) cells)) (first + rank_of names n)
moved_names first names [] n c = absurd (no_member n c)
moved_names first names (cell ∷ cells) n c =
    let here = moved first (ranks_of names cell) in
    let rest = members (map (λ cell. moved first (ranks_of names cell)) cells) in
    ⊎_elim
    (λ d. Contains-append_left here rest (first + rank_of names n) (moved_name first names cell n d))
    (λ d. Contains-append_right here rest (first + rank_of names n) (moved_names first names cells n d))
    (Contains-append_cases cell (members cells) n c)

-- ---- each index has a cell

sheet_used : (first : ℕ) (s : SheetData) (i : ℕ) → IsSheet s → i < length s.points → Contains (members (indices_in first s)) (first + i)
sheet_used first s i is lt =
    let below : i < length s.names = let same = is.matched in omega (arith, same, lt) in
    let n = get_or s.names i [] in
    let used = (is.used n).0 (Contains-get_or s.names i [] below) in
    subst (λ (k : ℕ). Contains (members (indices_in first s)) (first + k)) (rank-at s.names i is.ascending below) (moved_names first s.names s.cells n used)

used_from : (first : ℕ) (sheets : List SheetData) (i : ℕ) → All IsSheet sheets → i < length (points_of sheets) → Contains (members (cells_from first sheets)) (first + i)
used_from first [] i h lt = absurd (omega (arith, lt))
used_from first (s ∷ sheets) i h lt =
    let is = All-head IsSheet s sheets h in
    let next = first + length s.points in
    let here = indices_in first s in
    let rest = cells_from next sheets in
    let both = flat_map-append (λ (cell : List ℕ). cell) here rest in
    let long = length-append s.points (points_of sheets) in
    let place : Contains (members here ++ members rest) (first + i) = ⊎_elim
    (λ below. Contains-append_left (members here) (members rest) (first + i) (sheet_used first s i is below))
    (λ above. let same : next + (i - length s.points) ≡ first + i = omega (arith, above) in
    Contains-append_right (members here) (members rest) (first + i) (subst (λ (k : ℕ). Contains (members rest) k) same (used_from next sheets (i - length s.points) (All-tail IsSheet s sheets h) (omega (arith, long, lt, above)))))
    (cases_lt i (length s.points)) in
    subst (λ (xs : List ℕ). Contains xs (first + i)) (sym both) place

pub used_index : (sheets : List SheetData) (i : ℕ) → All IsSheet sheets → i < length (points_of sheets) → Contains (members (cells_of sheets)) i
used_index sheets i h lt =
    let same : 0 + i ≡ i = omega arith in
    subst (λ (k : ℕ). Contains (members (cells_of sheets)) k) same (used_from 0 sheets i h lt)

-- ---- by kinds

cond_here : (b : Bool) (c : List ℕ) (cs : List (List ℕ)) (i : ℕ) → b ≡ true → Contains c i → Contains (members (cond b (c ∷ cs) cs)) i
cond_here true c cs i e h = Contains-append_left c (members cs) i h
cond_here false c cs i e h = absurd cc

cond_there : (b : Bool) (c : List ℕ) (cs : List (List ℕ)) (i : ℕ) → Contains (members cs) i → Contains (members (cond b (c ∷ cs) cs)) i
cond_there true c cs i h = Contains-append_right c (members cs) i h
cond_there false c cs i h = h

-- a member of a cell of 1 to 3 points
pub record IsOfSize (cells : List (List ℕ)) (i : ℕ) : Type 0 where
  pub size : ℕ
  pub some : 1 ≤ size
  pub most : size ≤ 3
  pub member : Contains (members (of_size size cells)) i

pub of_some_size : (n : ℕ) (cells : List (List ℕ)) (i : ℕ) → All (IsCell n) cells → has_tetrahedra cells ≡ false → Contains (members cells) i → IsOfSize cells i
of_some_size n [] i is none h = absurd (no_member i h)
of_some_size n (c ∷ cs) i is none h =
    let p = or_parts (length c == 4) (has_tetrahedra cs) none in
    let one = All-head (IsCell n) c cs is in
    let four = eqb-false (length c) 4 p.0 in
    ⊎_elim
    (λ d. let some = one.some in let most = one.most in record {
      size = length c;
      some = some;
      most = omega (arith, most, four);
      member = cond_here (length c == length c) c (of_size (length c) cs) i (eq-eqb (length c) (length c) refl) d;
    })
    (λ d. let rest = of_some_size n cs i (All-tail (IsCell n) c cs is) p.1 d in
    record { size = rest.size; some = rest.some; most = rest.most; member = cond_there (length c == rest.size) c (of_size rest.size cs) i rest.member })
    (Contains-append_cases c (members cs) i h)

among_kinds : (cells : List (List ℕ)) (i size : ℕ) → 1 ≤ size → size ≤ 3 → Contains (members (of_size size cells)) i → Contains (members (of_size 1 cells) ++ (members (of_size 2 cells) ++ members (of_size 3 cells))) i
among_kinds cells i zero some most h = absurd (omega (arith, some))
among_kinds cells i (suc zero) some most h = Contains-append_left (members (of_size 1 cells)) (members (of_size 2 cells) ++ members (of_size 3 cells)) i h
among_kinds cells i (suc (suc zero)) some most h = Contains-append_right (members (of_size 1 cells)) (members (of_size 2 cells) ++ members (of_size 3 cells)) i (Contains-append_left (members (of_size 2 cells)) (members (of_size 3 cells)) i h)
among_kinds cells i (suc (suc (suc zero))) some most h = Contains-append_right (members (of_size 1 cells)) (members (of_size 2 cells) ++ members (of_size 3 cells)) i (Contains-append_right (members (of_size 2 cells)) (members (of_size 3 cells)) i h)
among_kinds cells i (suc (suc (suc (suc size)))) some most h = absurd (omega (arith, most))

members_by_kinds : (cells : List (List ℕ)) → members (by_kinds cells) ≡ members (of_size 1 cells) ++ (members (of_size 2 cells) ++ members (of_size 3 cells))
members_by_kinds cells =
    let f = λ (cell : List ℕ). cell in
    flat_map-append f (of_size 1 cells) (of_size 2 cells ++ of_size 3 cells) ∙ ap (λ (xs : List ℕ). members (of_size 1 cells) ++ xs) (flat_map-append f (of_size 2 cells) (of_size 3 cells))

-- cells in the order of a file, by whether a tetrahedron is there
abbrev ordered : Bool → List (List ℕ) → List (List ℕ)
ordered tetrahedra cells = if tetrahedra then cells else by_kinds cells

in_any_order : (n : ℕ) (b : Bool) (cells : List (List ℕ)) (i : ℕ) → All (IsCell n) cells → has_tetrahedra cells ≡ b → Contains (members cells) i → Contains (members (ordered b cells)) i
in_any_order n true cells i is e h = h
in_any_order n false cells i is e h =
    let found = of_some_size n cells i is e h in
    subst (λ (xs : List ℕ). Contains xs i) (sym (members_by_kinds cells)) (among_kinds cells i found.size found.some found.most found.member)

ordered_cells : (n : ℕ) (b : Bool) (cells : List (List ℕ)) → All (IsCell n) cells → All (IsCell n) (ordered b cells)
ordered_cells n true cells is = is
ordered_cells n false cells is =
    All-append (IsCell n) (of_size 1 cells) (of_size 2 cells ++ of_size 3 cells) (all-of_size (IsCell n) 1 cells is)
    (All-append (IsCell n) (of_size 2 cells) (of_size 3 cells) (all-of_size (IsCell n) 2 cells is) (all-of_size (IsCell n) 3 cells is))

member_below : (n : ℕ) (cells : List (List ℕ)) (i : ℕ) → All (IsCell n) cells → Contains (members cells) i → i < n
member_below n [] i is h = absurd (no_member i h)
member_below n (c ∷ cs) i is h =
    ⊎_elim
    (λ d. All-contains (λ j. j < n) c i (All-head (IsCell n) c cs is).below d)
    (λ d. member_below n cs i (All-tail (IsCell n) c cs is) d)
    (Contains-append_cases c (members cs) i h)

-- ---- all are kept

pub trues : ℕ → List Bool
trues zero = []
trues (suc n) = true ∷ trues n

length-trues : (n : ℕ) → length (trues n) ≡ n
unfolding trues
length-trues zero = refl
length-trues (suc n) = ap suc (length-trues n)

true_below : (n i : ℕ) → i < n → get_or (trues n) i false ≡ true
unfolding trues
true_below zero i lt = absurd (omega (arith, lt))
true_below (suc n) zero lt = refl
true_below (suc n) (suc i) lt = true_below n i (omega (arith, lt))

below_true : (n i : ℕ) → get_or (trues n) i false ≡ true → i < n
unfolding trues
below_true zero i e = absurd cc
below_true (suc n) zero e = omega arith
below_true (suc n) (suc i) e = let lt = below_true n i e in omega (arith, lt)

pub kept_all : {X : Type 0} (xs : List X) (n : ℕ) → length xs ≡ n → xs ≡ kept (trues n) xs
unfolding trues
kept_all [] zero e = refl
kept_all [] (suc n) e = refl
kept_all (x ∷ xs) zero e = absurd (omega (arith, e))
kept_all (x ∷ xs) (suc n) e = ap (λ ys. x ∷ ys) (kept_all xs n (omega (arith, e)))

pub marks_all : (n : ℕ) (cells : List (List ℕ)) → All (IsCell n) cells → ((i : ℕ) → i < n → Contains (members cells) i) → AreMarks n cells (trues n)
marks_all n cells is used = record {
  size = length-trues n;
  each = λ i. ((λ e. used i (below_true n i e)), (λ h. true_below n i (member_below n cells i is h)));
}

-- ---- points

pub map_range : {X Y : Type 0} (f : ℕ → Y) (g : X → Y) (k : ℕ) (xs : List X) → ((i : ℕ) (x : X) → i < length xs → get_or xs i x ≡ x → f (k + i) ≡ g x) → map f (range_with_len k (length xs)) ≡ map g xs
map_range f g k [] h = refl
map_range f g k (x ∷ xs) h =
    let first : k + 0 ≡ k = omega arith in
    ap₂ (λ y ys. y ∷ ys) (ap f (sym first) ∙ h 0 x (omega arith) refl)
    (map_range f g (k + 1) xs (λ i y lt e. let next : (k + 1) + i ≡ k + suc i = omega arith in ap f next ∙ h (suc i) y (omega (arith, lt)) e))

-- the three numbers of a point
pub record AreNumbers (digits : ℕ) (ns : List ℤ) (i : ℕ) (p : Point) : Type 0 where
  pub x : get_or ns (3 * i) (pos 0) ≡ fixed_of p.x p.w digits
  pub y : get_or ns (3 * i + 1) (pos 0) ≡ fixed_of p.y p.w digits
  pub z : get_or ns (3 * i + 2) (pos 0) ≡ fixed_of p.z p.w digits

pub numbers_at : (digits : ℕ) (ps : List Point) (i : ℕ) (p : Point) → i < length ps → get_or ps i p ≡ p → AreNumbers digits (flat_map (coordinates digits) ps) i p
numbers_at digits [] i p lt e = absurd (omega (arith, lt))
numbers_at digits (q ∷ ps) zero p lt e = record {
  x = ap (λ (p : Point). fixed_of p.x p.w digits) e;
  y = ap (λ (p : Point). fixed_of p.y p.w digits) e;
  z = ap (λ (p : Point). fixed_of p.z p.w digits) e;
}
numbers_at digits (q ∷ ps) (suc i) p lt e =
    let rest = numbers_at digits ps i p (omega (arith, lt)) e in
    let ns = flat_map (coordinates digits) (q ∷ ps) in
    let a : 3 * suc i ≡ suc (suc (suc (3 * i))) = omega arith in
    let b : 3 * suc i + 1 ≡ suc (suc (suc (3 * i + 1))) = omega arith in
    let c : 3 * suc i + 2 ≡ suc (suc (suc (3 * i + 2))) = omega arith in
    record {
      x = ap (λ (k : ℕ). get_or ns k (pos 0)) a ∙ rest.x;
      y = ap (λ (k : ℕ). get_or ns k (pos 0)) b ∙ rest.y;
      z = ap (λ (k : ℕ). get_or ns k (pos 0)) c ∙ rest.z;
    }

point_is : (digits : ℕ) (ps : List Point) (i : ℕ) (p : Point) → i < length ps → get_or ps i p ≡ p → file_point digits (points_in_file digits ps) (Some (scalars_in_file ps)) i ≡ rounded digits p
point_is digits ps i p lt e =
    let ns = numbers_at digits ps i p lt e in
    let s : get_or (map scalar ps) i (pos 0) ≡ scalar p = get_or-map scalar ps i p (pos 0) lt ∙ ap scalar e in
    λ t. reduced (numbers (ns.x t) (ns.y t) (ns.z t) (s t *ℤ pos (10 ^ digits)) (pos (10 ^ digits)))

points_are : (digits : ℕ) (ps : List Point) → file_points digits (points_in_file digits ps) (Some (scalars_in_file ps)) ≡ map (rounded digits) ps
points_are digits ps =
    map_range (file_point digits (points_in_file digits ps) (Some (scalars_in_file ps))) (rounded digits) 0 ps (λ i p lt e.
    let same : 0 + i ≡ i = omega arith in
    ap (file_point digits (points_in_file digits ps) (Some (scalars_in_file ps))) same ∙ point_is digits ps i p lt e)

-- ---- the mesh

-- one sheet of these points and cells, none of which is dropped
sheet_is : (digits : ℕ) (ps : List Point) (cells : List (List ℕ)) → All (IsCell (length ps)) cells → ((i : ℕ) → i < length ps → Contains (members cells) i)
    → record { names = leaf_names (length ps); points = map (rounded digits) ps; cells = by_names (leaf_names (length ps)) cells } ≡ sheet_with (leaf_names (length ps)) (file_points digits (points_in_file digits ps) (Some (scalars_in_file ps))) cells
sheet_is digits ps cells is used =
    let n = length ps in
    let names = leaf_names n in
    let points = map (rounded digits) ps in
    let long : length names ≡ n = length-map (range_with_len 0 n) (λ leaf. leaf ∷ []) ∙ length-range_with_len 0 n in
    let s : SheetData = record { names = names; points = points; cells = by_names names cells } in
    let marks = subst (λ (k : ℕ). AreMarks k cells (trues n)) (sym long) (marks_all n cells is used) in
    marked_is s names points cells (trues n) marks (kept_all names n long) (kept_all points n (length-map ps (rounded digits))) refl
    ∙ ap (λ (qs : List Point). sheet_with names qs cells) (sym (points_are digits ps))

pub read_is-written : (digits : ℕ) (sheets : List SheetData) → All IsSheet sheets → read_of digits sheets ≡ written_again digits sheets
read_is-written digits sheets h =
    let ps = points_of sheets in
    let cells = cells_of sheets in
    let n = length ps in
    let is = cells-are sheets h in
    let b = has_tetrahedra cells in
    ap (λ (s : SheetData). s ∷ []) (sym (sheet_is digits ps (ordered b cells) (ordered_cells n b cells is) (λ i lt. in_any_order n b cells i is refl (used_index sheets i h lt))))
