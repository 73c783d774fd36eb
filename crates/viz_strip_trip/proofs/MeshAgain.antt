-- The mesh that is read of strips, point by point and cell by cell.
use Rattle.std.proofs.Common.{◌≡◌, ◌≢◌, ℕ, zero, suc, pos, ◌+◌, ◌^◌, ◌<◌, ◌≤◌, ◌==◌, Bool, true, false, cond, List, [], ◌∷◌, ◌++◌, length, get_or, map, refl, sym, ap, subst, ◌∙◌, append-nil, arith, eqb-true, eq-eqb}
use Rattle.std.specs.Prelude.{None}
use Rattle.std.specs.List.{All, Contains, range_with_len}
use Rattle.std.proofs.lemmas.Bool.{ne_eqb}
use Rattle.std.proofs.lemmas.List.{length-map}
use Rattle.std.proofs.lemmas.List.Concat.{flat_map-append}
use Rattle.std.proofs.lemmas.List.Elements.{All-nil, All-cons, All-head, All-tail, All-append, All-weaker, Contains-append_left, Contains-append_right, filter-append, filter_passes}
use Rattle.std.proofs.lemmas.List.FromFn.{length-range_with_len}
use Rattle.viz_fraction.specs.Points.{Point, numbers, reduced}
use Rattle.viz_file_mesh.specs.FileMesh.{file_point, file_points, mesh_of}
use Rattle.viz_sheet.specs.Sheet.{SheetData}
use Rattle.viz_sheet.specs.Ranked.{IsCell, rank_of, ranks_of, names_at, by_names, leaf_names}
use Rattle.viz_sheet.specs.Kept.{AreMarks, sheet_with}
use Rattle.viz_sheet.proofs.LeafLemmas.{leaf_names-ascend}
use Rattle.viz_sheet.proofs.UsedLemmas.{marked_is}
use Rattle.viz_mesh_write.specs.Cells.{points_of, cells_of, of_size, has_tetrahedra}
use Rattle.viz_strip.specs.Kept.{AreSameTriangles}
use Rattle.viz_strip_write.specs.StripText.{IsFlat}
use Rattle.viz_strip_write.proofs.CellLemmas.{ranks-again}
use Rattle.viz_strip_write.proofs.FitLemmas.{cells-alone, points-alone}
use Rattle.viz_round_trip.specs.MeshTrip.{points_in_file}
use Rattle.viz_round_trip.proofs.AgainLemmas.{members, trues, kept_all, marks_all, map_range, numbers_at}
use Rattle.viz_round_trip.proofs.PieceLemmas.{all-of_size}
use Rattle.viz_strip_trip.specs.StripTrip.{HasSameCells, without_scalar}
use Rattle.viz_strip_trip.proofs.SameLemmas.{IsThree}

-- ---- cells of one size

-- each cell has so many points
abbrev AreLong : ℕ → List (List ℕ) → Type 0
AreLong n cells = All (λ c. length c ≡ n) cells

chosen : (b : Bool) (c : List ℕ) (cs ds : List (List ℕ)) → b ≡ true → cs ≡ ds → cond b (c ∷ cs) cs ≡ c ∷ ds
chosen true c cs ds e h = ap (λ (xs : List (List ℕ)). c ∷ xs) h
chosen false c cs ds e h = absurd cc

left_out : (b : Bool) (c : List ℕ) (cs : List (List ℕ)) → b ≡ false → cs ≡ [] → cond b (c ∷ cs) cs ≡ []
left_out true c cs e h = absurd cc
left_out false c cs e h = h

of-own : (n : ℕ) (cells : List (List ℕ)) → AreLong n cells → of_size n cells ≡ cells
of-own n [] h = refl
of-own n (c ∷ cs) h =
    let P : List ℕ → Type 0 = λ c. length c ≡ n in
    chosen (length c == n) c (of_size n cs) cs (eq-eqb (length c) n (All-head P c cs h)) (of-own n cs (All-tail P c cs h))

of-other : (n m : ℕ) (cells : List (List ℕ)) → n ≢ m → AreLong n cells → of_size m cells ≡ []
of-other n m [] differ h = refl
of-other n m (c ∷ cs) differ h =
    let P : List ℕ → Type 0 = λ c. length c ≡ n in
    left_out (length c == m) c (of_size m cs) (ne_eqb (length c) m (λ e. differ (sym (All-head P c cs h) ∙ e))) (of-other n m cs differ (All-tail P c cs h))

sized : (n : ℕ) (cells : List (List ℕ)) → AreLong n (of_size n cells)
sized n cells =
    All-weaker (λ c. (length c == n) ≡ true) (λ c. length c ≡ n) (λ c e. eqb-true (length c) n e) (of_size n cells) (filter_passes (λ (c : List ℕ). length c == n) cells)

three-long : (ts : List (List ℕ)) → All IsThree ts → AreLong 3 ts
three-long ts h = All-weaker IsThree (λ c. length c ≡ 3) (λ t three. ap length three.is) ts h

-- ---- the cells that are read

abbrev pub read_cells : List (List ℕ) → List (List ℕ) → List (List ℕ)
read_cells cells pieces = of_size 1 cells ++ (of_size 2 cells ++ pieces)

read-size : (n : ℕ) (cells pieces : List (List ℕ)) → of_size n (read_cells cells pieces) ≡ of_size n (of_size 1 cells) ++ (of_size n (of_size 2 cells) ++ of_size n pieces)
read-size n cells pieces =
    let test = λ (c : List ℕ). length c == n in
    filter-append test (of_size 1 cells) (of_size 2 cells ++ pieces) ∙ ap (λ (xs : List (List ℕ)). of_size n (of_size 1 cells) ++ xs) (filter-append test (of_size 2 cells) pieces)

three-lists : (a b c x y z : List (List ℕ)) → a ≡ x → b ≡ y → c ≡ z → a ++ (b ++ c) ≡ x ++ (y ++ z)
three-lists a b c x y z e f g = λ i. e i ++ (f i ++ g i)

read-vertices : (cells pieces : List (List ℕ)) → All IsThree pieces → of_size 1 (read_cells cells pieces) ≡ of_size 1 cells
read-vertices cells pieces h =
    read-size 1 cells pieces
    ∙ three-lists (of_size 1 (of_size 1 cells)) (of_size 1 (of_size 2 cells)) (of_size 1 pieces) (of_size 1 cells) [] [] (of-own 1 (of_size 1 cells) (sized 1 cells)) (of-other 2 1 (of_size 2 cells) (λ e. absurd cc) (sized 2 cells)) (of-other 3 1 pieces (λ e. absurd cc) (three-long pieces h))
    ∙ append-nil (of_size 1 cells)

read-lines : (cells pieces : List (List ℕ)) → All IsThree pieces → of_size 2 (read_cells cells pieces) ≡ of_size 2 cells
read-lines cells pieces h =
    read-size 2 cells pieces
    ∙ three-lists (of_size 2 (of_size 1 cells)) (of_size 2 (of_size 2 cells)) (of_size 2 pieces) [] (of_size 2 cells) [] (of-other 1 2 (of_size 1 cells) (λ e. absurd cc) (sized 1 cells)) (of-own 2 (of_size 2 cells) (sized 2 cells)) (of-other 3 2 pieces (λ e. absurd cc) (three-long pieces h))
    ∙ append-nil (of_size 2 cells)

read-triangles : (cells pieces : List (List ℕ)) → All IsThree pieces → of_size 3 (read_cells cells pieces) ≡ pieces
read-triangles cells pieces h =
    read-size 3 cells pieces
    ∙ three-lists (of_size 3 (of_size 1 cells)) (of_size 3 (of_size 2 cells)) (of_size 3 pieces) [] [] pieces (of-other 1 3 (of_size 1 cells) (λ e. absurd cc) (sized 1 cells)) (of-other 2 3 (of_size 2 cells) (λ e. absurd cc) (sized 2 cells)) (of-own 3 pieces (three-long pieces h))

pub read-cells : (n : ℕ) (cells pieces : List (List ℕ)) → All (IsCell n) cells → All (IsCell n) pieces → All (IsCell n) (read_cells cells pieces)
read-cells n cells pieces are h =
    All-append (IsCell n) (of_size 1 cells) (of_size 2 cells ++ pieces) (all-of_size (IsCell n) 1 cells are)
    (All-append (IsCell n) (of_size 2 cells) pieces (all-of_size (IsCell n) 2 cells are) h)

-- at most three points
abbrev AreSmall : List (List ℕ) → Type 0
AreSmall cells = All (λ c. length c ≤ 3) cells

long-small : (n : ℕ) (cells : List (List ℕ)) → n ≤ 3 → AreLong n cells → AreSmall cells
long-small n cells most h = All-weaker (λ c. length c ≡ n) (λ c. length c ≤ 3) (λ c e. subst (λ (k : ℕ). k ≤ 3) (sym e) most) cells h

read-small : (cells pieces : List (List ℕ)) → All IsThree pieces → AreSmall (read_cells cells pieces)
read-small cells pieces h =
    let P : List ℕ → Type 0 = λ c. length c ≤ 3 in
    All-append P (of_size 1 cells) (of_size 2 cells ++ pieces) (long-small 1 (of_size 1 cells) (omega arith) (sized 1 cells))
    (All-append P (of_size 2 cells) pieces (long-small 2 (of_size 2 cells) (omega arith) (sized 2 cells)) (long-small 3 pieces (omega arith) (three-long pieces h)))

-- ---- each index has a cell

members-read : (cells pieces : List (List ℕ)) → members (read_cells cells pieces) ≡ members (of_size 1 cells) ++ (members (of_size 2 cells) ++ members pieces)
members-read cells pieces =
    let f = λ (cell : List ℕ). cell in
    flat_map-append f (of_size 1 cells) (of_size 2 cells ++ pieces) ∙ ap (λ (xs : List ℕ). members (of_size 1 cells) ++ xs) (flat_map-append f (of_size 2 cells) pieces)

among-read : (cells pieces : List (List ℕ)) (i size : ℕ) → 1 ≤ size → size ≤ 3 → (Contains (members (of_size 3 cells)) i → Contains (members pieces) i) → Contains (members (of_size size cells)) i
    → Contains (members (of_size 1 cells) ++ (members (of_size 2 cells) ++ members pieces)) i
among-read cells pieces i zero some most same h = absurd (omega (arith, some))
among-read cells pieces i (suc zero) some most same h = Contains-append_left (members (of_size 1 cells)) (members (of_size 2 cells) ++ members pieces) i h
among-read cells pieces i (suc (suc zero)) some most same h =
    Contains-append_right (members (of_size 1 cells)) (members (of_size 2 cells) ++ members pieces) i (Contains-append_left (members (of_size 2 cells)) (members pieces) i h)
among-read cells pieces i (suc (suc (suc zero))) some most same h =
    Contains-append_right (members (of_size 1 cells)) (members (of_size 2 cells) ++ members pieces) i (Contains-append_right (members (of_size 2 cells)) (members pieces) i (same h))
among-read cells pieces i (suc (suc (suc (suc size)))) some most same h = absurd (omega (arith, most))

pub in-read : (cells pieces : List (List ℕ)) (i size : ℕ) → 1 ≤ size → size ≤ 3 → (Contains (members (of_size 3 cells)) i → Contains (members pieces) i) → Contains (members (of_size size cells)) i → Contains (members (read_cells cells pieces)) i
in-read cells pieces i size some most same h = subst (λ (xs : List ℕ). Contains xs i) (sym (members-read cells pieces)) (among-read cells pieces i size some most same h)

-- ---- the sheet that is read

abbrev pub read_sheet : List Point → List (List ℕ) → SheetData
read_sheet ps cells =
    record { names = leaf_names (length ps); points = map without_scalar ps; cells = by_names (leaf_names (length ps)) cells }

point-is : (ps : List Point) (i : ℕ) (p : Point) → i < length ps → get_or ps i p ≡ p → file_point 3 (points_in_file 3 ps) None i ≡ without_scalar p
point-is ps i p lt e =
    let ns = numbers_at 3 ps i p lt e in
    λ t. reduced (numbers (ns.x t) (ns.y t) (ns.z t) (pos 0) (pos (10 ^ 3)))

points-are : (ps : List Point) → file_points 3 (points_in_file 3 ps) None ≡ map without_scalar ps
points-are ps =
    map_range (file_point 3 (points_in_file 3 ps) None) without_scalar 0 ps (λ i p lt e.
    let same : 0 + i ≡ i = omega arith in
    ap (file_point 3 (points_in_file 3 ps) None) same ∙ point-is ps i p lt e)

leaves-long : (n : ℕ) → length (leaf_names n) ≡ n
leaves-long n = length-map (range_with_len 0 n) (λ leaf. leaf ∷ []) ∙ length-range_with_len 0 n

-- no point is dropped
pub mesh-is : (ps : List Point) (cells : List (List ℕ)) → All (IsCell (length ps)) cells → ((i : ℕ) → i < length ps → Contains (members cells) i) → read_sheet ps cells ∷ [] ≡ mesh_of 3 (points_in_file 3 ps) None cells
mesh-is ps cells is used =
    let n = length ps in
    let names = leaf_names n in
    let points = map without_scalar ps in
    let long = leaves-long n in
    let marks = subst (λ (k : ℕ). AreMarks k cells (trues n)) (sym long) (marks_all n cells is used) in
    ap (λ (s : SheetData). s ∷ [])
    (marked_is (read_sheet ps cells) names points cells (trues n) marks (kept_all names n long) (kept_all points n (length-map ps without_scalar)) refl
    ∙ ap (λ (qs : List Point). sheet_with names qs cells) (sym (points-are ps)))

read-again : (ps : List Point) (cells : List (List ℕ)) → All (IsCell (length ps)) cells → cells_of (read_sheet ps cells ∷ []) ≡ cells
read-again ps cells is =
    let names = leaf_names (length ps) in
    sym (cells-alone (read_sheet ps cells)) ∙ ranks-again names cells (leaf_names-ascend (length ps)) (subst (λ (k : ℕ). All (IsCell k) cells) (sym (leaves-long (length ps))) is)

leaves-one : (xs : List ℕ) → All (λ name. length name ≡ 1) (map (λ leaf. leaf ∷ []) xs)
leaves-one [] = All-nil (λ name. length name ≡ 1)
leaves-one (x ∷ xs) = All-cons (λ name. length name ≡ 1) (x ∷ []) (map (λ leaf. leaf ∷ []) xs) refl (leaves-one xs)

names-small : (names : List (List ℕ)) (cells : List (List ℕ)) → AreSmall cells → All (λ cell. length cell ≤ 3) (by_names names cells)
names-small names [] h = All-nil (λ cell. length cell ≤ 3)
names-small names (c ∷ cs) h =
    let P : List ℕ → Type 0 = λ c. length c ≤ 3 in
    All-cons (λ cell. length cell ≤ 3) (names_at names c) (by_names names cs) (subst (λ (k : ℕ). k ≤ 3) (sym (length-map c (λ r. get_or names r []))) (All-head P c cs h)) (names-small names cs (All-tail P c cs h))

read-flat : (ps : List Point) (cells : List (List ℕ)) → AreSmall cells → IsFlat (read_sheet ps cells ∷ [])
read-flat ps cells h =
    record {
      sheet = read_sheet ps cells;
      one = refl;
      leaves = leaves-one (range_with_len 0 (length ps));
      small = names-small (leaf_names (length ps)) cells h;
    }

pub same-cells-read : (sheets : List SheetData) (pieces : List (List ℕ)) → All (IsCell (length (points_of sheets))) (cells_of sheets) → All (IsCell (length (points_of sheets))) pieces → All IsThree pieces → AreSameTriangles (of_size 3 (cells_of sheets)) pieces
    → HasSameCells sheets (read_sheet (points_of sheets) (read_cells (cells_of sheets) pieces) ∷ [])
same-cells-read sheets pieces are h threes same =
    let ps = points_of sheets in
    let cells = cells_of sheets in
    let read = read_cells cells pieces in
    let again = read-again ps read (read-cells (length ps) cells pieces are h) in
    record {
      flat = read-flat ps read (read-small cells pieces threes);
      points = sym (points-alone (read_sheet ps read));
      vertices = ap (of_size 1) again ∙ read-vertices cells pieces threes;
      lines = ap (of_size 2) again ∙ read-lines cells pieces threes;
      triangles = subst (AreSameTriangles (of_size 3 cells)) (sym (ap (of_size 3) again ∙ read-triangles cells pieces threes)) same;
    }

-- ---- a mesh without tetrahedra

none-of : (cells : List (List ℕ)) → AreSmall cells → has_tetrahedra cells ≡ false
none-of [] h = refl
none-of (c ∷ cs) h =
    let P : List ℕ → Type 0 = λ c. length c ≤ 3 in
    let small = All-head P c cs h in
    rw (ne_eqb (length c) 4 (λ e. omega (arith, small, e)), none-of cs (All-tail P c cs h)) refl

ranks-small : (names : List (List ℕ)) (cells : List (List (List ℕ))) → All (λ cell. length cell ≤ 3) cells → AreSmall (map (ranks_of names) cells)
ranks-small names [] h = All-nil (λ c. length c ≤ 3)
ranks-small names (c ∷ cs) h =
    let P : List (List ℕ) → Type 0 = λ cell. length cell ≤ 3 in
    All-cons (λ c. length c ≤ 3) (ranks_of names c) (map (ranks_of names) cs) (subst (λ (k : ℕ). k ≤ 3) (sym (length-map c (rank_of names))) (All-head P c cs h)) (ranks-small names cs (All-tail P c cs h))

pub flat-none : (sheets : List SheetData) → IsFlat sheets → has_tetrahedra (cells_of sheets) ≡ false
flat-none sheets flat =
    let s = flat.sheet in
    ap (λ (ss : List SheetData). has_tetrahedra (cells_of ss)) flat.one ∙ ap has_tetrahedra (sym (cells-alone s)) ∙ none-of (map (ranks_of s.names) s.cells) (ranks-small s.names s.cells flat.small)
