-- The tetrahedra that are kept of a cell by ranks, by the leaves of its corners.
use Rattle.std.proofs.Common.{◌≡◌, ℕ, ◌+◌, ◌^◌, ◌<◌, ◌≤◌, Bool, false, not, List, [], ◌∷◌, ◌++◌, length, get_or, map, Ordering, Less, Equal, Greater, refl, sym, ap, ap₂, subst, ◌∙◌, arith}
use Rattle.std.specs.List.{All, Contains, flat_map}
use Rattle.std.specs.List.Sorted.{IsStrictlySortedBy}
use Rattle.std.specs.Cmp.Lexicographic.{slice_cmp}
use Rattle.std.specs.Ordering.{nat_cmp, ordering_then}
use Rattle.std.proofs.lemmas.Cmp.{nat_cmp_total, nat_list_cmp_total}
use Rattle.std.proofs.lemmas.List.{get_or-map, length-map}
use Rattle.std.proofs.lemmas.List.Elements.{All-head, All-tail, All-get_or}
use Rattle.std.proofs.lemmas.Map.Keys.{Less-from_sorted}
use Rattle.viz_fraction.specs.declared.forms.Form.{Form}
use Rattle.viz_sheet.specs.Kept.{kept}
use Rattle.viz_sheet.specs.Sheet.{SheetData, AreAscending, AreApart}
use Rattle.viz_sheet.specs.Ranked.{IsCell, names_at}
use Rattle.viz_sheet.proofs.MemberLemmas.{same_from_members}
use Rattle.viz_meaning.specs.Names.{each_once}
use Rattle.viz_meaning.specs.Section.{is_inside_at, point_of, zero_point}
use Rattle.viz_meaning.proofs.ListLemmas.{contains-map, contains-unmap}
use Rattle.viz_meaning.proofs.NameSets.{sorted-each_once, in-each_once, of-each_once}
use Rattle.viz_cells.specs.Steps.Crossings.{point_at}
use Rattle.viz_cells.proofs.EdgeLemmas.{AreGiven, flags_of, point-named}
use Rattle.viz_clip_meaning.specs.declared.vertex.Vertex.{Vertex}
use Rattle.viz_clip_meaning.specs.declared.vertex.Vertex.TheVariants.{Corner}
use Rattle.viz_clip_meaning.specs.Clip.{tets_in}
use Rattle.viz_clip_meaning.specs.Order.{ascending}
use Rattle.viz_clip_meaning.specs.Rows.{rows}
use Rattle.viz_clip_meaning.specs.Solids.{kept_tets}
use Rattle.viz_clip_meaning.specs.Vertices.{cut}
use Rattle.viz_clip_meaning.proofs.SetLemmas.{in-ascending, of-ascending, sorted-ascending, numbers-exact}
use Rattle.viz_clip_meaning.proofs.SpotLemmas.{split-by_rows, less}
use Rattle.viz_clip.specs.Steps.Corners.{flags_at, inside_of, outside_of}
use Rattle.viz_clip.specs.Steps.Keys.{IsTet}
use Rattle.viz_clip.specs.Steps.Vertices.{leaf_at}
use Rattle.viz_clip.proofs.CornerLemmas.{all-ascending, four-ascending}
use Rattle.viz_clip.proofs.ListLemmas.{kept-map, sorted-map}

-- ---- leaves

pub one-item : (n : List ℕ) → length n ≡ 1 → n ≡ get_or n 0 0 ∷ []
one-item [] h = absurd (omega arith)
one-item (x ∷ []) h = refl
one-item (x ∷ y ∷ n) h = absurd (omega arith)

then_equal : (o : Ordering) → ordering_then o Equal ≡ o
then_equal Less = refl
then_equal Equal = refl
then_equal Greater = refl

pub less-below : (j k : ℕ) → nat_cmp j k ≡ Less → j < k
less-below j k h = grind (arith)

one-below : (m n : List ℕ) → length m ≡ 1 → length n ≡ 1 → slice_cmp nat_cmp m n ≡ Less → get_or m 0 0 < get_or n 0 0
one-below m n hm hn e =
    less-below (get_or m 0 0) (get_or n 0 0)
    (sym (then_equal (nat_cmp (get_or m 0 0) (get_or n 0 0))) ∙ sym (ap₂ (slice_cmp nat_cmp) (one-item m hm) (one-item n hn)) ∙ e)

-- leaves of names of one leaf ascend as their ranks do
pub leaf-order : (names : List (List ℕ)) (r q : ℕ) → AreAscending names → All (λ n. length n ≡ 1) names → r < q → q < length names → leaf_at names r < leaf_at names q
leaf-order names r q s sized h l =
    one-below (get_or names r []) (get_or names q [])
    (All-get_or (λ n. length n ≡ 1) names r [] (omega (arith, h, l)) sized) (All-get_or (λ n. length n ≡ 1) names q [] l sized)
    (Less-from_sorted (slice_cmp nat_cmp) names r q [] s h l)

-- ---- a cell's names in order

names-keep : (names : List (List ℕ)) → AreAscending names → (r q : ℕ) → r < length names → q < length names → nat_cmp r q ≡ Less → slice_cmp nat_cmp (get_or names r []) (get_or names q []) ≡ Less
names-keep names s r q rl ql e = Less-from_sorted (slice_cmp nat_cmp) names r q [] s (less-below r q e) ql

pub once-ranked : (names : List (List ℕ)) (cell : List ℕ) → AreAscending names → All (λ r. r < length names) cell
    → each_once (names_at names cell) ≡ names_at names (ascending nat_cmp cell)
once-ranked names cell s below =
    let rs = ascending nat_cmp cell in
    let at : ℕ → List ℕ = λ r. get_or names r [] in
    let X = names_at names cell in
    same_from_members nat_list_cmp_total (each_once X) (names_at names rs) (sorted-each_once X)
    (sorted-map nat_cmp (slice_cmp nat_cmp) at (λ r. r < length names) (names-keep names s) rs (all-ascending (λ r. r < length names) cell below) (sorted-ascending nat_cmp_total cell))
    (λ z c.
    let u = contains-unmap at cell z (of-each_once X z c) in
    subst (Contains (names_at names rs)) u.2 (contains-map at rs u.0 (in-ascending nat_cmp_total numbers-exact cell u.0 u.1)))
    (λ z c.
    let u = contains-unmap at rs z c in
    in-each_once X z (subst (Contains X) u.2 (contains-map at cell u.0 (of-ascending nat_cmp_total cell u.0 u.1))))

flat-leaves : (names : List (List ℕ)) (rs : List ℕ) → All (λ n. length n ≡ 1) names → All (λ r. r < length names) rs → flat_map (λ n. n) (names_at names rs) ≡ map (leaf_at names) rs
flat-leaves names [] sized h = refl
flat-leaves names (r ∷ rs) sized h =
    let l = All-head (λ q. q < length names) r rs h in
    ap₂ (λ (a : List ℕ) (b : List ℕ). a ++ b) (one-item (get_or names r []) (All-get_or (λ n. length n ≡ 1) names r [] l sized))
    (flat-leaves names rs sized (All-tail (λ q. q < length names) r rs h))

pub flag-named : (f : Form) (s : SheetData) (r : ℕ) → AreGiven s → r < length s.names → is_inside_at f (point_of s (get_or s.names r [])) ≡ get_or (flags_of f s.points) r false
flag-named f s r g l =
    let within : r < length s.points = omega (arith, g.matched, l) in
    ap (is_inside_at f) (point-named s r g l) ∙ sym (get_or-map (is_inside_at f) s.points r zero_point false within)

flags-named : (f : Form) (s : SheetData) (rs : List ℕ) → AreGiven s → All (λ r. r < length s.names) rs
    → map (λ n. is_inside_at f (point_of s n)) (names_at s.names rs) ≡ map (λ r. get_or (flags_of f s.points) r false) rs
flags-named f s [] g h = refl
flags-named f s (r ∷ rs) g h =
    ap₂ (λ a b. a ∷ b) (flag-named f s r g (All-head (λ q. q < length s.names) r rs h)) (flags-named f s rs g (All-tail (λ q. q < length s.names) r rs h))

leaves-keep : (names : List (List ℕ)) → AreAscending names → All (λ n. length n ≡ 1) names → (r q : ℕ) → r < length names → q < length names → nat_cmp r q ≡ Less → nat_cmp (leaf_at names r) (leaf_at names q) ≡ Less
leaves-keep names s sized r q rl ql e = less (leaf_at names r) (leaf_at names q) (leaf-order names r q s sized (less-below r q e) ql)

-- ---- a cell's tetrahedra

pub cell-rows : (f : Form) (s : SheetData) (cell : List ℕ) → AreGiven s → All (λ n. length n ≡ 1) s.names → IsTet (length s.names) cell
    → tets_in f s (names_at s.names cell)
    ≡ rows Corner cut (map (leaf_at s.names) (inside_of (flags_of f s.points) cell)) (map (leaf_at s.names) (outside_of (flags_of f s.points) cell))
cell-rows f s cell g sized tet =
    let names = s.names in
    let flags = flags_of f s.points in
    let rs = ascending nat_cmp cell in
    let four : length rs ≡ 4 = four-ascending cell tet.four tet.cell.apart in
    let below = all-ascending (λ r. r < length names) cell tet.cell.below in
    let F = map (λ r. get_or flags r false) rs in
    let leaves = map (leaf_at names) rs in
    let sorted : IsStrictlySortedBy nat_cmp leaves =
    sorted-map nat_cmp nat_cmp (leaf_at names) (λ r. r < length names) (leaves-keep names g.ascending sized) rs below (sorted-ascending nat_cmp_total cell) in
    ap (λ l. kept_tets (map (λ n. is_inside_at f (point_of s n)) l) (flat_map (λ n. n) l)) (once-ranked names cell g.ascending tet.cell.below)
    ∙ ap₂ kept_tets (flags-named f s rs g below) (flat-leaves names rs sized below)
    ∙ split-by_rows F leaves (length-map rs (λ r. get_or flags r false) ∙ four) (length-map rs (leaf_at names) ∙ four) sorted
    ∙ ap₂ (rows Corner cut) (kept-map (leaf_at names) F rs) (kept-map (leaf_at names) (map not F) rs)
