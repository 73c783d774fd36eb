-- The points of a clip, and that no number is wide.
use Rattle.std.proofs.Common.{◌≡◌, ◌≢◌, ℕ, ◌+◌, ◌^◌, ◌<◌, ◌≤◌, ℤ, pos, Bool, true, false, not, ⊎_elim, List, [], ◌∷◌, ◌++◌, length, get_or, map, refl, sym, ap, ap₂, subst, ◌∙◌, true≢false, arith}
use Rattle.std.specs.Prelude.{◌≤ℤ◌, ◌<ℤ◌, int_le}
use Rattle.std.specs.List.{All, Contains, flat_map}
use Rattle.std.specs.Ordering.{nat_cmp}
use Rattle.std.proofs.lemmas.Bool.{cases_lt}
use Rattle.std.proofs.lemmas.Cmp.{nat_cmp_total}
use Rattle.std.proofs.lemmas.Int.{ints}
use Rattle.std.proofs.lemmas.List.{get_or_default, get_or-map, length-map, map-append}
use Rattle.std.proofs.lemmas.List.Elements.{All-contains, All-from_get_or, All-get_or, Contains-get_or}
use borrow.Author.Differences.{true_is_le, false_is_le}
use Rattle.viz_fraction.specs.declared.forms.Form.{Form}
use Rattle.viz_fraction.specs.Points.{Point}
use Rattle.viz_fraction.specs.Forms.{IsNarrowValue, value_of}
use Rattle.viz_fraction.specs.Crossings.{edge_crossing}
use Rattle.viz_sheet.specs.Sheet.{SheetData}
use Rattle.viz_sheet.specs.Ranked.{by_names, names_at}
use Rattle.viz_meaning.specs.Narrow.{IsNarrowCell, IsNarrowEdge}
use Rattle.viz_meaning.specs.Section.{is_inside_at, point_of, zero_point}
use Rattle.viz_meaning.proofs.ListLemmas.{all-map, contains-map, contains-unmap, map-same, map-twice}
use Rattle.viz_cells.specs.Steps.Keys.{IsEdgeKey, high_of, key_of, low_of}
use Rattle.viz_cells.specs.Steps.Crossings.{IsNarrowEither, either_crossing, point_at}
use Rattle.viz_cells.proofs.CrossingLemmas.{narrow_either}
use Rattle.viz_cells.proofs.EdgeLemmas.{AreGiven, flags_of, point-named}
use Rattle.viz_cells.proofs.KeyLemmas.{by-halves, key-falls, key-rises}
use Rattle.viz_clip_meaning.specs.declared.vertex.Vertex.{Vertex}
use Rattle.viz_clip_meaning.specs.declared.vertex.Vertex.TheVariants.{Corner, Cut}
use Rattle.viz_clip_meaning.specs.Clip.{AreNarrowCells, vertex_point}
use Rattle.viz_clip_meaning.specs.Order.{ascending}
use Rattle.viz_clip_meaning.proofs.SetLemmas.{in-ascending, of-ascending, numbers-exact}
use Rattle.viz_clip.specs.declared.numbers.Numbers.{Numbers}
use Rattle.viz_clip.specs.Steps.Corners.{flags_at, inside_of, outside_of}
use Rattle.viz_clip.specs.Steps.Cuts.{IsCutAt, IsNarrowCut, cut_point, kept_points, value_at}
use Rattle.viz_clip.specs.Steps.Keys.{IsTet, cell_keys}
use Rattle.viz_clip.specs.Steps.Numbers.{ranks_inside}
use Rattle.viz_clip.specs.Steps.Vertices.{cut_leaves, cut_of, leaf_at}
use Rattle.viz_clip.proofs.CellLemmas.{one-item, flag-named}
use Rattle.viz_clip.proofs.CutLemmas.{cut-by}
use Rattle.viz_clip.proofs.ListLemmas.{from-flat, in-kept, in-left, kept-in}
use Rattle.viz_clip.proofs.NumberedLemmas.{IsCutEdge, KeyCell, cell-key, cut-edge, key-cell}
use Rattle.viz_clip.proofs.VertexLemmas.{inside-below, vertices_by}

-- what is known of a sheet of tetrahedra, and of the keys of its cut edges
pub record Cuts (f : Form) (s : SheetData) (cells : List (List ℕ)) (keys : List ℕ) : Type 0 where
  pub given : AreGiven s
  pub sized : All (λ m. length m ≡ 1) s.names
  pub tets : All (IsTet (length s.names)) cells
  pub used : (r : ℕ) → r < length s.names → Contains (flat_map (λ c. c) cells) r
  pub named : by_names s.names cells ≡ s.cells
  pub edges : All (IsEdgeKey (length s.names)) keys
  pub members : (key : ℕ) → Contains keys key → Contains (flat_map (λ p. p) (cell_keys (flags_of f s.points) cells)) key
  pub has : (key : ℕ) → Contains (flat_map (λ p. p) (cell_keys (flags_of f s.points) cells)) key → Contains keys key

module _ (f : Form) (s : SheetData) (cells : List (List ℕ)) (keys : List ℕ) (k : Cuts f s cells keys) where
  abbrev flags : List Bool
  flags = flags_of f s.points

  abbrev values : List ℤ
  values = map (value_of f) s.points

  matched : length flags ≡ length s.names
  matched = length-map s.points (is_inside_at f) ∙ k.given.matched

  value-at : (r : ℕ) → r < length s.names → value_at values r ≡ value_of f (point_at s.points r)
  value-at r l = get_or-map (value_of f) s.points r zero_point (pos 0) (omega (arith, l, k.given.matched))

  leaf-point : (r : ℕ) → r < length s.names → point_of s (leaf_at s.names r ∷ []) ≡ point_at s.points r
  leaf-point r l =
      ap (point_of s) (sym (one-item (get_or s.names r []) (All-get_or (λ m. length m ≡ 1) s.names r [] l k.sized))) ∙ point-named s r k.given l

  key-point : (key : ℕ) → IsEdgeKey (length s.names) key → vertex_point f s (cut_of (cut_leaves s.names key)) ≡ cut_point values s.points key
  key-point key e =
      let p = point_at s.points (low_of key) in
      let q = point_at s.points (high_of key) in
      let low : low_of key < length s.names = omega (arith, e.rises, e.below) in
      ap₂ (edge_crossing f) (leaf-point (low_of key) low) (leaf-point (high_of key) e.below)
      ∙ cut-by values s.points key p q (value_of f p) (value_of f q) (sym (value-at (low_of key) low)) (sym (value-at (high_of key) e.below)) refl refl

  pub points-are : map (vertex_point f s) (vertices_by s.names flags keys) ≡ kept_points (ranks_inside flags) values keys s.points
  points-are =
      let R = ranks_inside flags in
      let below : All (λ r. r < length s.names) R = subst (λ n. All (λ r. r < n) R) matched (inside-below flags) in
      map-append (vertex_point f s) (map Corner (map (leaf_at s.names) R)) (map cut_of (map (cut_leaves s.names) keys))
      ∙ ap₂ (λ a b. a ++ b)
      (map-twice (vertex_point f s) Corner (map (leaf_at s.names) R)
      ∙ map-twice (λ a. vertex_point f s (Corner a)) (leaf_at s.names) R
      ∙ map-same (λ r. vertex_point f s (Corner (leaf_at s.names r))) (point_at s.points) R (λ i d l. leaf-point (get_or R i d) (below i d l)))
      (map-twice (vertex_point f s) cut_of (map (cut_leaves s.names) keys)
      ∙ map-twice (λ a. vertex_point f s (cut_of a)) (cut_leaves s.names) keys
      ∙ map-same (λ key. vertex_point f s (cut_of (cut_leaves s.names key))) (cut_point values s.points) keys (λ i d l. key-point (get_or keys i d) (k.edges i d l)))

  -- ---- wide numbers

  -- a cell of the sheet by names
  cell-in : (cell : List ℕ) → Contains cells cell → Contains s.cells (names_at s.names cell)
  cell-in cell c = subst (λ l. Contains l (names_at s.names cell)) k.named (contains-map (names_at s.names) cells cell c)

  pub values-narrow : AreNarrowCells f s → All (IsNarrowValue f) s.points
  values-narrow h =
      All-from_get_or (IsNarrowValue f) s.points zero_point (λ r l.
      let below : r < length s.names = omega (arith, k.given.matched, l) in
      let from = from-flat (λ c. c) cells r (k.used r below) in
      let narrow = All-contains (IsNarrowCell f s) s.cells (names_at s.names from.item) h.each (cell-in from.item from.among) in
      subst (IsNarrowValue f) (point-named s r k.given below)
      (All-contains (λ m. IsNarrowValue f (point_of s m)) (names_at s.names from.item) (get_or s.names r []) narrow.values
      (contains-map (λ q. get_or s.names q []) from.item r from.gives)))

  -- an edge between two corners of a cell isn't wide
  edge-narrow : (h : AreNarrowCells f s) (cell : List ℕ) (i j : ℕ) → Contains cells cell → Contains cell i → Contains cell j → i < length s.names → j < length s.names
      → IsNarrowEdge f (point_at s.points i) (point_at s.points j)
  edge-narrow h cell i j c ci cj il jl =
      let named = names_at s.names cell in
      let N = λ (q : ℕ). get_or s.names q [] in
      let narrow = All-contains (IsNarrowCell f s) s.cells named h.each (cell-in cell c) in
      let inner = All-contains (λ m. All (λ o. IsNarrowEdge f (point_of s m) (point_of s o)) named) named (N i) narrow.crossings (contains-map N cell i ci) in
      subst (λ p. IsNarrowEdge f p (point_at s.points j)) (point-named s i k.given il)
      (subst (λ p. IsNarrowEdge f (point_of s (N i)) p) (point-named s j k.given jl)
      (All-contains (λ o. IsNarrowEdge f (point_of s (N i)) (point_of s o)) named (N j) inner (contains-map N cell j cj)))

  first-in : (cell : List ℕ) (i : ℕ) → Contains (inside_of flags cell) i → Contains cell i
  first-in cell i c = of-ascending nat_cmp_total cell i (kept-in (flags_at flags cell) (ascending nat_cmp cell) i c)

  last-in : (cell : List ℕ) (i : ℕ) → Contains (outside_of flags cell) i → Contains cell i
  last-in cell i c = of-ascending nat_cmp_total cell i (kept-in (map not (flags_at flags cell)) (ascending nat_cmp cell) i c)

  value-narrow : (i j : ℕ) → i < length s.names → j < length s.names
      → (IsNarrowEither (value_at values i) (point_at s.points i) (value_at values j) (point_at s.points j) → IsNarrowEdge f (point_at s.points i) (point_at s.points j))
      × (IsNarrowEdge f (point_at s.points i) (point_at s.points j) → IsNarrowEither (value_at values i) (point_at s.points i) (value_at values j) (point_at s.points j))
  value-narrow i j il jl =
      narrow_either f (point_at s.points i) (point_at s.points j) (point_at s.points i) (point_at s.points j) (value_at values i) (value_at values j) (value-at i il) (value-at j jl) refl refl

  pub cuts-narrow : AreNarrowCells f s → All (IsNarrowCut values s.points) keys
  cuts-narrow h a d al =
      let key = get_or keys a d in
      let edge = k.edges a d al in
      let from = key-cell flags cells key (k.members key (Contains-get_or keys a d al)) in
      let tet = All-contains (IsTet (length s.names)) cells from.cell k.tets from.among in
      let i = from.ends.i in
      let j = from.ends.j in
      let e = cut-edge (length s.names) flags from.cell i j tet.cell.below from.ends.has_i from.ends.has_j in
      let ci = first-in from.cell i from.ends.has_i in
      let cj = last-in from.cell j from.ends.has_j in
      let both : IsNarrowEdge f (point_at s.points (low_of (key_of i j))) (point_at s.points (high_of (key_of i j))) =
      by-halves (λ p q. IsNarrowEdge f (point_at s.points p) (point_at s.points q)) i j e.differ (omega (arith, k.given.few, e.first)) (omega (arith, k.given.few, e.last))
      (λ r. edge-narrow h from.cell i j from.among ci cj e.first e.last)
      (λ r. edge-narrow h from.cell j i from.among cj ci e.last e.first) in
      let at_key : IsNarrowEdge f (point_at s.points (low_of key)) (point_at s.points (high_of key)) =
      subst (λ q. IsNarrowEdge f (point_at s.points (low_of q)) (point_at s.points (high_of q))) from.ends.is both in
      (value-narrow (low_of key) (high_of key) (omega (arith, edge.rises, edge.below)) edge.below).1 at_key

  -- the crossing between an inside and an outside corner of a cell isn't wide
  between : All (IsNarrowCut values s.points) keys → (cell : List ℕ) (i j : ℕ) → Contains cells cell → Contains cell i → Contains cell j
      → get_or flags i false ≡ true → get_or flags j false ≡ false → IsNarrowEdge f (point_at s.points i) (point_at s.points j)
  between h cell i j c ci cj on off =
      let tet = All-contains (IsTet (length s.names)) cells cell k.tets c in
      let F : ℕ → Bool = λ r. get_or flags r false in
      let hi = in-kept F (ascending nat_cmp cell) i (in-ascending nat_cmp_total numbers-exact cell i ci) on in
      let hj = in-left F (ascending nat_cmp cell) j (in-ascending nat_cmp_total numbers-exact cell j cj) off in
      let key = key_of i j in
      let has = k.has key (cell-key flags cells cell i j c hi hj) in
      let e = cut-edge (length s.names) flags cell i j tet.cell.below hi hj in
      let edge = All-contains (IsEdgeKey (length s.names)) keys key k.edges has in
      let at_key = (value-narrow (low_of key) (high_of key) (omega (arith, edge.rises, edge.below)) edge.below).0 (All-contains (IsNarrowCut values s.points) keys key h has) in
      ⊎_elim
      (λ l.
      let r = key-rises i j l (omega (arith, k.given.few, e.last)) in
      subst (λ p. IsNarrowEdge f (point_at s.points p) (point_at s.points j)) r.0
      (subst (λ q. IsNarrowEdge f (point_at s.points (low_of key)) (point_at s.points q)) r.1 at_key))
      (λ g.
      let l : j < i = omega (arith, g, e.differ) in
      let r = key-falls i j l (omega (arith, k.given.few, e.first)) in
      let turned : IsNarrowEdge f (point_at s.points j) (point_at s.points i) =
      subst (λ p. IsNarrowEdge f (point_at s.points p) (point_at s.points i)) r.0
      (subst (λ q. IsNarrowEdge f (point_at s.points (low_of key)) (point_at s.points q)) r.1 at_key) in
      record { up = turned.down; down = turned.up })
      (cases_lt i j)

  flag-yes : (r : ℕ) → r < length s.names → pos 0 ≤ℤ value_of f (point_at s.points r) → get_or flags r false ≡ true
  flag-yes r l h =
      get_or-map (is_inside_at f) s.points r zero_point false (omega (arith, l, k.given.matched))
      ∙ sym (true_is_le (pos 0) (value_of f (point_at s.points r)) (omega (arith, ints, h)))

  flag-no : (r : ℕ) → r < length s.names → value_of f (point_at s.points r) <ℤ pos 0 → get_or flags r false ≡ false
  flag-no r l h =
      get_or-map (is_inside_at f) s.points r zero_point false (omega (arith, l, k.given.matched))
      ∙ sym (false_is_le (pos 0) (value_of f (point_at s.points r)) (omega (arith, ints, h)))

  pair-narrow : All (IsNarrowCut values s.points) keys → (cell : List ℕ) (i j : ℕ) → Contains cells cell → Contains cell i → Contains cell j → i < length s.names → j < length s.names
      → IsNarrowEdge f (point_at s.points i) (point_at s.points j)
  pair-narrow h cell i j c ci cj il jl = record {
    up = λ a b. (between h cell i j c ci cj (flag-yes i il a) (flag-no j jl b)).up a b;
    down = λ a b. (between h cell j i c cj ci (flag-yes j jl a) (flag-no i il b)).up a b;
  }

  -- no number is wide in a cell
  cell-narrow : All (IsNarrowValue f) s.points → All (IsNarrowCut values s.points) keys → (cell : List ℕ) → Contains cells cell → IsNarrowCell f s (names_at s.names cell)
  cell-narrow vs h cell c =
      let tet = All-contains (IsTet (length s.names)) cells cell k.tets c in
      let N : ℕ → List ℕ = λ q. get_or s.names q [] in
      record {
        values = all-map (λ m. IsNarrowValue f (point_of s m)) N cell (λ a d al.
            let below = tet.cell.below a d al in
            subst (IsNarrowValue f) (sym (point-named s (get_or cell a d) k.given below)) (vs (get_or cell a d) zero_point (omega (arith, k.given.matched, below))));
        crossings = all-map (λ m. All (λ o. IsNarrowEdge f (point_of s m) (point_of s o)) (map N cell)) N cell (λ a d al.
            all-map (λ o. IsNarrowEdge f (point_of s (N (get_or cell a d))) (point_of s o)) N cell (λ b e bl.
            let il = tet.cell.below a d al in
            let jl = tet.cell.below b e bl in
            subst (λ p. IsNarrowEdge f p (point_of s (N (get_or cell b e)))) (sym (point-named s (get_or cell a d) k.given il))
            (subst (λ p. IsNarrowEdge f (point_at s.points (get_or cell a d)) p) (sym (point-named s (get_or cell b e) k.given jl))
            (pair-narrow h cell (get_or cell a d) (get_or cell b e) c (Contains-get_or cell a d al) (Contains-get_or cell b e bl) il jl))));
      }

  pub cells-narrow : All (IsNarrowValue f) s.points → All (IsNarrowCut values s.points) keys → AreNarrowCells f s
  cells-narrow vs h = record {
    each = subst (All (IsNarrowCell f s)) k.named (all-map (IsNarrowCell f s) (names_at s.names) cells (λ a d al. cell-narrow vs h (get_or cells a d) (Contains-get_or cells a d al)));
  }

  -- each key is cut
  pub keys-cut : All (IsCutAt values s.points) keys
  keys-cut a d al =
      let key = get_or keys a d in
      let edge = k.edges a d al in
      let low : low_of key < length s.names = omega (arith, edge.rises, edge.below) in
      let from = key-cell flags cells key (k.members key (Contains-get_or keys a d al)) in
      let tet = All-contains (IsTet (length s.names)) cells from.cell k.tets from.among in
      let e = cut-edge (length s.names) flags from.cell from.ends.i from.ends.j tet.cell.below from.ends.has_i from.ends.has_j in
      let apart : get_or flags (low_of (key_of from.ends.i from.ends.j)) false ≢ get_or flags (high_of (key_of from.ends.i from.ends.j)) false =
      by-halves (λ p q. get_or flags p false ≢ get_or flags q false) from.ends.i from.ends.j e.differ (omega (arith, k.given.few, e.first)) (omega (arith, k.given.few, e.last))
      (λ r w. true≢false (sym e.inside ∙ w ∙ e.outside)) (λ r w. true≢false (sym e.inside ∙ sym w ∙ e.outside)) in
      let at_key : get_or flags (low_of key) false ≢ get_or flags (high_of key) false =
      subst (λ q. get_or flags (low_of q) false ≢ get_or flags (high_of q) false) from.ends.is apart in
      record {
        matched = length-map s.points (value_of f);
        rises = edge.rises;
        below = omega (arith, edge.below, k.given.matched);
        apart = λ same. at_key (flag-value (low_of key) low ∙ same ∙ sym (flag-value (high_of key) edge.below));
      }
    where
      flag-value : (r : ℕ) → r < length s.names → get_or flags r false ≡ int_le (pos 0) (value_at values r)
      flag-value r l =
          get_or-map (is_inside_at f) s.points r zero_point false (omega (arith, l, k.given.matched))
          ∙ ap (int_le (pos 0)) (sym (value-at r l))
