-- A clipped volume as a sheet.
use Rattle.std.proofs.Common.{◌≡◌, ℕ, ◌+◌, ◌<◌, ◌≤◌, true, false, List, [], ◌∷◌, ◌++◌, length, get_or, map, is_lt, refl, sym, ap, ap₂, subst, ◌∙◌, arith}
use Rattle.std.specs.List.{All, count_by, range_with_len}
use Rattle.std.specs.List.Sorted.{IsStrictlySortedBy}
use Rattle.std.specs.Ordering.{nat_cmp}
use Rattle.std.proofs.lemmas.List.{length-append, length-map}
use Rattle.std.proofs.lemmas.List.FromFn.{get_or-map-range_with_len, length-range_with_len}
use Rattle.std.proofs.lemmas.List.Elements.{All-head, All-tail}
use Rattle.viz_fraction.specs.Points.{Point}
use Rattle.viz_sheet.specs.Sheet.{SheetData}
use Rattle.viz_sheet.specs.Ranked.{IsCell, by_names, leaf_names, names_at}
use Rattle.viz_sheet.proofs.PairOrder.{compare_as_ranks}
use Rattle.viz_sheet.proofs.RankLemmas.{count-of_first}
use Rattle.viz_clip_meaning.specs.declared.vertex.Vertex.{Vertex}
use Rattle.viz_clip_meaning.specs.declared.vertex.Vertex.TheVariants.{Corner}
use Rattle.viz_clip_meaning.specs.Vertices.{vertex_cmp}
use Rattle.viz_clip_meaning.specs.Clip.{ClippedData, rank_in, sheet_of}
use Rattle.viz_clip_meaning.proofs.SpotLemmas.{vertex_total}
use Rattle.viz_clip.specs.Steps.Vertices.{IsKept, cut_of, tets_at, vertices_in}

below_is : (k i : ℕ) → k < i → is_lt (nat_cmp k i) ≡ true
below_is k i h = grind (arith)

from_is : (k i : ℕ) → i ≤ k → is_lt (nat_cmp k i) ≡ false
from_is k i h = grind (arith)

-- the rank of a vertex is its index
rank-at : (vs : List Vertex) (i : ℕ) → IsStrictlySortedBy vertex_cmp vs → i < length vs → rank_in vs (get_or vs i (Corner 0)) ≡ i
rank-at vs i s l =
    count-of_first (λ w. is_lt (vertex_cmp w (get_or vs i (Corner 0)))) vs i (Corner 0) (omega arith)
    (λ k b. ap is_lt (compare_as_ranks vertex_total vs k i (Corner 0) s (omega arith) l) ∙ below_is k i b)
    (λ k f b. ap is_lt (compare_as_ranks vertex_total vs k i (Corner 0) s b l) ∙ from_is k i f)

leaf-at : (n r : ℕ) → r < n → get_or (leaf_names n) r [] ≡ r ∷ []
leaf-at n r l = get_or-map-range_with_len (λ leaf. leaf ∷ []) 0 n r r [] l (zero-plus r)
  where
    zero-plus : (m : ℕ) → 0 + m ≡ m
    zero-plus m = omega arith

tet-leaves : (vs : List Vertex) (n : ℕ) (t : List ℕ) → IsStrictlySortedBy vertex_cmp vs → length vs ≡ n → All (λ r. r < n) t
    → names_at (leaf_names n) t ≡ map (λ v. rank_in vs v ∷ []) (map (λ r. get_or vs r (Corner 0)) t)
tet-leaves vs n [] s size h = refl
tet-leaves vs n (r ∷ rs) s size h =
    let l = All-head (λ q. q < n) r rs h in
    ap₂ (λ x xs. x ∷ xs) (leaf-at n r l ∙ ap (λ m. m ∷ []) (sym (rank-at vs r s (omega (arith, size, l)))))
    (tet-leaves vs n rs s size (All-tail (λ q. q < n) r rs h))

tets-leaves : (vs : List Vertex) (n : ℕ) (ts : List (List ℕ)) → IsStrictlySortedBy vertex_cmp vs → length vs ≡ n → All (IsCell n) ts
    → by_names (leaf_names n) ts ≡ map (map (λ v. rank_in vs v ∷ [])) (tets_at vs ts)
tets-leaves vs n [] s size h = refl
tets-leaves vs n (t ∷ ts) s size h =
    ap₂ (λ x xs. x ∷ xs) (tet-leaves vs n t s size (All-head (IsCell n) t ts h).below) (tets-leaves vs n ts s size (All-tail (IsCell n) t ts h))

data-is : (t : SheetData) (names : List (List ℕ)) (points : List Point) (cells : List (List (List ℕ))) → t.names ≡ names → t.points ≡ points → t.cells ≡ cells
    → t ≡ record { names = names; points = points; cells = cells }
data-is t names points cells a b c = λ i. record { names = a i; points = b i; cells = c i }

pub as-sheet : (c : ClippedData) (corners : List ℕ) (cuts : List (List ℕ)) (points : List Point) (tets : List (List ℕ)) (t : SheetData) (n : ℕ)
    → c ≡ record { vertices = vertices_in corners cuts; points = points; tets = tets_at (vertices_in corners cuts) tets }
    → IsKept corners cuts points tets → n ≡ length corners + length cuts → t.names ≡ leaf_names n → t.points ≡ points → t.cells ≡ by_names (leaf_names n) tets
    → t ≡ sheet_of c
as-sheet c corners cuts points tets t n is kept count names places cells =
    let vs = vertices_in corners cuts in
    let size : length vs ≡ n =
    length-append (map Corner corners) (map cut_of cuts) ∙ ap₂ (λ a b. a + b) (length-map corners Corner) (length-map cuts cut_of) ∙ sym count in
    let named : length (leaf_names (length corners + length cuts)) ≡ n =
    length-map (range_with_len 0 (length corners + length cuts)) (λ leaf. leaf ∷ []) ∙ length-range_with_len 0 (length corners + length cuts) ∙ sym count in
    let each : All (IsCell n) tets = subst (λ m. All (IsCell m) tets) named kept.ranks.rule.each in
    data-is t (leaf_names (length vs)) points (map (map (λ v. rank_in vs v ∷ [])) (tets_at vs tets))
    (names ∙ ap leaf_names (sym size)) places (cells ∙ tets-leaves vs n tets kept.ascending size each)
    ∙ ap sheet_of (sym is)
