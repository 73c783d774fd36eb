-- A section of a sheet whose leaves are moved is the section, moved.
use Rattle.std.proofs.Common.{◌≡◌, ℕ, zero, suc, ◌+◌, ◌/◌, Bool, true, false, cond, List, [], ◌∷◌, ◌++◌, length, get_or, map, take, drop, refl, sym, ap, ap₂, ◌∙◌, arith}
use Rattle.std.specs.Cmp.Lexicographic.{slice_cmp}
use Rattle.std.specs.List.{flat_map}
use Rattle.std.specs.Ordering.{nat_cmp, is_lt, ordering_then}
use Rattle.std.proofs.lemmas.List.{length-map, map-append, take-map}
use Rattle.viz_fraction.specs.CaseRows.{End}
use Rattle.viz_fraction.specs.Cases.{cells_at}
use Rattle.viz_fraction.specs.Crossings.{edge_crossing}
use Rattle.viz_fraction.specs.Points.{Point}
use Rattle.viz_fraction.specs.declared.forms.Form.{Form}
use Rattle.viz_meaning.proofs.ListLemmas.{flat-map}
use Rattle.viz_meaning.specs.Names.{each_once, edge_name, greater_end, is_before, lesser_end, names_of, with_name}
use Rattle.viz_meaning.specs.Section.{bits_of, cells_in, crossing_at, end_name, is_inside_at, mask_of, point_of, section_cells, section_of, zero_point}
use Rattle.viz_sheet.proofs.KeptLemmas.{count_by-cons}
use Rattle.viz_sheet.specs.Ranked.{rank_of}
use Rattle.viz_sheet.specs.Sheet.{SheetData}
use Rattle.viz_piece_filters.specs.HandedOn.{counts, handed_on}
use Rattle.viz_piece_layers.specs.Sheets.{shifted_sheet}
use Rattle.viz_piece_section.specs.Shifted.{SectionsHandOnShifted, SectionsShift}

-- ---- lists

get-map : {X : Type 0} (f : List X → List X) → f [] ≡ [] → (xs : List (List X)) (i : ℕ) → get_or (map f xs) i [] ≡ f (get_or xs i [])
get-map f e [] i = sym e
get-map f e (x ∷ xs) zero = refl
get-map f e (x ∷ xs) (suc i) = get-map f e xs i

drop-map : {X Y : Type 0} (f : X → Y) (n : ℕ) (xs : List X) → drop n (map f xs) ≡ map f (drop n xs)
drop-map f zero xs = refl
drop-map f (suc n) [] = refl
drop-map f (suc n) (x ∷ xs) = drop-map f n xs

maps-same : {X Y Z : Type 0} (g : X → Z) (h : Y → Z) (f : X → Y) → ((x : X) → g x ≡ h (f x)) → (xs : List X) → map g xs ≡ map h (map f xs)
maps-same g h f e [] = refl
maps-same g h f e (x ∷ xs) = ap₂ (λ a b. a ∷ b) (e x) (maps-same g h f e xs)

map-both : {X Y : Type 0} (g : X → Y) (h : X → Y) (f : X → X) → ((x : X) → g (f x) ≡ h x) → (xs : List X) → map g (map f xs) ≡ map h xs
map-both g h f e [] = refl
map-both g h f e (x ∷ xs) = ap₂ (λ a b. a ∷ b) (e x) (map-both g h f e xs)

-- ---- names with each leaf so much greater

abbrev moved : ℕ → List ℕ → List ℕ
moved by n = map (λ leaf. leaf + by) n

leaves-compare : (by x y : ℕ) → nat_cmp (x + by) (y + by) ≡ nat_cmp x y
leaves-compare by x y = grind arith

names-compare : (by : ℕ) (m n : List ℕ) → slice_cmp nat_cmp (moved by m) (moved by n) ≡ slice_cmp nat_cmp m n
names-compare by [] [] = refl
names-compare by [] (y ∷ ys) = refl
names-compare by (x ∷ xs) [] = refl
names-compare by (x ∷ xs) (y ∷ ys) = ap₂ ordering_then (leaves-compare by x y) (names-compare by xs ys)

before : (by : ℕ) (m n : List ℕ) → is_before (moved by m) (moved by n) ≡ is_before m n
before by m n = ap is_lt (names-compare by m n)

edge : (by : ℕ) (m n : List ℕ) → edge_name (moved by m) (moved by n) ≡ moved by (edge_name m n)
edge by m n =
    ap (λ b. cond b (moved by n ++ moved by m) (moved by m ++ moved by n)) (before by n m) ∙ either (is_before n m)
  where
    either : (b : Bool) → cond b (moved by n ++ moved by m) (moved by m ++ moved by n) ≡ moved by (cond b (n ++ m) (m ++ n))
    either true = sym (map-append (λ leaf. leaf + by) n m)
    either false = sym (map-append (λ leaf. leaf + by) m n)

half : (by : ℕ) (n : List ℕ) → length (moved by n) / 2 ≡ length n / 2
half by n = ap (λ k. k / 2) (length-map n (λ leaf. leaf + by))

pub lesser : (by : ℕ) (n : List ℕ) → lesser_end (moved by n) ≡ moved by (lesser_end n)
lesser by n = ap (λ k. take k (moved by n)) (half by n) ∙ take-map (λ leaf. leaf + by) (length n / 2) n

pub greater : (by : ℕ) (n : List ℕ) → greater_end (moved by n) ≡ moved by (greater_end n)
greater by n = ap (λ k. drop k (moved by n)) (half by n) ∙ drop-map (λ leaf. leaf + by) (length n / 2) n

-- ---- points of names

rank : (by : ℕ) (names : List (List ℕ)) (n : List ℕ) → rank_of (map (moved by) names) (moved by n) ≡ rank_of names n
rank by [] n = refl
rank by (m ∷ ms) n =
    count_by-cons (λ m. is_lt (slice_cmp nat_cmp m (moved by n))) (moved by m) (map (moved by) ms)
    ∙ ap₂ (λ b k. cond b 1 0 + k) (before by m n) (rank by ms n)
    ∙ sym (count_by-cons (λ m. is_lt (slice_cmp nat_cmp m n)) m ms)

pub point : (by : ℕ) (s : SheetData) (n : List ℕ) → point_of (shifted_sheet by s) (moved by n) ≡ point_of s n
point by s n = ap (λ r. get_or s.points r zero_point) (rank by s.names n)

inside-same : (by : ℕ) (f : Form) (s : SheetData) (n : List ℕ) → is_inside_at f (point_of (shifted_sheet by s) (moved by n)) ≡ is_inside_at f (point_of s n)
inside-same by f s n = ap (is_inside_at f) (point by s n)

crossing-same : (by : ℕ) (f : Form) (s : SheetData) (n : List ℕ) → crossing_at f (shifted_sheet by s) (moved by n) ≡ crossing_at f s n
crossing-same by f s n =
    ap₂ (edge_crossing f)
    (ap (point_of (shifted_sheet by s)) (lesser by n) ∙ point by s (lesser_end n))
    (ap (point_of (shifted_sheet by s)) (greater by n) ∙ point by s (greater_end n))

-- ---- cells

end-moved : (by : ℕ) (corners : List (List ℕ)) (e : End) → end_name (map (moved by) corners) e ≡ moved by (end_name corners e)
end-moved by corners e =
    ap₂ edge_name (get-map (moved by) refl corners e.low) (get-map (moved by) refl corners e.high)
    ∙ edge by (get_or corners e.low []) (get_or corners e.high [])

cells-moved : (by : ℕ) (t u : List ℕ → Bool) → ((n : List ℕ) → t (moved by n) ≡ u n) → (corners : List (List ℕ))
    → cells_in t (map (moved by) corners) ≡ map (map (moved by)) (cells_in u corners)
cells-moved by t u same corners =
    ap₂ (λ k m. map (map (end_name (map (moved by) corners))) (cells_at k m))
    (length-map corners (moved by)) (ap bits_of (map-both t u (moved by) same corners))
    ∙ maps-same (map (end_name (map (moved by) corners))) (map (moved by)) (map (end_name corners))
    (maps-same (end_name (map (moved by) corners)) (moved by) (end_name corners) (end-moved by corners))
    (cells_at (length corners) (mask_of u corners))

all-moved : (by : ℕ) (t u : List ℕ → Bool) → ((n : List ℕ) → t (moved by n) ≡ u n) → (cells : List (List (List ℕ)))
    → flat_map (cells_in t) (map (map (moved by)) cells) ≡ map (map (moved by)) (flat_map (cells_in u) cells)
all-moved by t u same [] = refl
all-moved by t u same (c ∷ cs) =
    ap₂ (λ a b. a ++ b) (cells-moved by t u same c) (all-moved by t u same cs)
    ∙ sym (map-append (map (moved by)) (cells_in u c) (flat_map (cells_in u) cs))

section-moved : (by : ℕ) (f : Form) (s : SheetData) → section_cells f (shifted_sheet by s) ≡ map (map (moved by)) (section_cells f s)
section-moved by f s =
    all-moved by (λ n. is_inside_at f (point_of (shifted_sheet by s) n)) (λ n. is_inside_at f (point_of s n)) (inside-same by f s) s.cells

-- ---- names

with-moved : (by : ℕ) (n : List ℕ) (ms : List (List ℕ)) → with_name (moved by n) (map (moved by) ms) ≡ map (moved by) (with_name n ms)
with-moved by n [] = refl
with-moved by n (m ∷ ms) =
    ap₂ (λ a b. cond a (moved by n ∷ moved by m ∷ map (moved by) ms) (cond b (moved by m ∷ with_name (moved by n) (map (moved by) ms)) (moved by m ∷ map (moved by) ms))) (before by n m) (before by m n)
    ∙ ap (λ t. cond (is_before n m) (moved by n ∷ moved by m ∷ map (moved by) ms) (cond (is_before m n) (moved by m ∷ t) (moved by m ∷ map (moved by) ms))) (with-moved by n ms)
    ∙ either (is_before n m) (is_before m n)
  where
    either : (a b : Bool)
        → cond a (moved by n ∷ moved by m ∷ map (moved by) ms) (cond b (moved by m ∷ map (moved by) (with_name n ms)) (moved by m ∷ map (moved by) ms))
        ≡ map (moved by) (cond a (n ∷ m ∷ ms) (cond b (m ∷ with_name n ms) (m ∷ ms)))
    either true b = refl
    either false true = refl
    either false false = refl

once-moved : (by : ℕ) (ns : List (List ℕ)) → each_once (map (moved by) ns) ≡ map (moved by) (each_once ns)
once-moved by [] = refl
once-moved by (n ∷ ns) = ap (with_name (moved by n)) (once-moved by ns) ∙ with-moved by n (each_once ns)

names-moved : (by : ℕ) (cells : List (List (List ℕ))) → names_of (map (map (moved by)) cells) ≡ map (moved by) (names_of cells)
names-moved by cells = ap each_once (flat-map (moved by) cells) ∙ once-moved by (flat_map (λ cell. cell) cells)

-- ---- the section

made : List (List ℕ) → List Point → List (List (List ℕ)) → SheetData
made names points cells = record { names = names; points = points; cells = cells }

pub sections_shift : SectionsShift
unfolding made
sections_shift by f s =
    let names = names_of (section_cells f s) in
    let cells = section-moved by f s in
    let named = ap names_of cells ∙ names-moved by (section_cells f s) in
    ap₂ (λ ns cs. made ns (map (crossing_at f (shifted_sheet by s)) ns) cs) named cells
    ∙ ap (λ ps. made (map (moved by) names) ps (map (map (moved by)) (section_cells f s)))
    (map-both (crossing_at f (shifted_sheet by s)) (crossing_at f s) (moved by) (crossing-same by f s) names)

-- ---- what is handed on

counts-moved : (by : ℕ) (t u : List ℕ → Bool) → ((n : List ℕ) → t (moved by n) ≡ u n) → (cells : List (List (List ℕ)))
    → counts (cells_in t) (map (map (moved by)) cells) ≡ counts (cells_in u) cells
counts-moved by t u same [] = refl
counts-moved by t u same (c ∷ cs) =
    ap₂ (λ a b. a ∷ b) (ap length (cells-moved by t u same c) ∙ length-map (cells_in u c) (map (moved by))) (counts-moved by t u same cs)

pub hand_on_shifted : SectionsHandOnShifted
hand_on_shifted by f s levels =
    ap (handed_on levels) (counts-moved by (λ n. is_inside_at f (point_of (shifted_sheet by s) n)) (λ n. is_inside_at f (point_of s n)) (inside-same by f s) s.cells)
