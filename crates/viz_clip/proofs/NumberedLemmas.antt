-- Tetrahedra by the numbers of their vertices are those of the clipped volume.
use Rattle.std.proofs.Common.{◌≡◌, ◌≢◌, ℕ, ◌+◌, ◌^◌, ◌<◌, ◌≤◌, Bool, true, false, ⊎_elim, List, [], ◌∷◌, ◌++◌, length, get_or, map, not, Less, Greater, is_lt, refl, sym, ap, ap₂, subst, ◌∙◌, true≢false, arith}
use Rattle.std.specs.List.{All, AllByRecursion, Contains, flat_map, range_with_len}
use Rattle.std.specs.List.Sorted.{IsStrictlySortedBy}
use Rattle.std.specs.Ordering.{nat_cmp}
use Rattle.std.proofs.lemmas.Bool.{cases_lt}
use Rattle.std.proofs.lemmas.Cmp.{nat_cmp_total, tied_itself}
use Rattle.std.proofs.lemmas.List.{length-map, map-append, get_or-map}
use Rattle.std.proofs.lemmas.List.FromFn.{get_or-map-range_with_len, length-range_with_len}
use Rattle.std.proofs.lemmas.List.Elements.{All-cons, All-nil, All-contains, All-head, All-tail, Contains-get_or, Contains-append_cases}
use Rattle.viz_fraction.specs.declared.forms.Form.{Form}
use Rattle.viz_sheet.specs.Kept.{kept, kept_rank}
use Rattle.viz_sheet.specs.Sheet.{SheetData, AreApart}
use Rattle.viz_sheet.proofs.LeafLemmas.{leaf_names-ascend}
use Rattle.viz_fraction.specs.Points.{Point}
use Rattle.viz_meaning.specs.Names.{each_once}
use Rattle.viz_sheet.proofs.MemberLemmas.{here, there}
use Rattle.viz_sheet.specs.Ranked.{AreRanks, AreUsed, IsCell, by_names, leaf_names, names_at}
use Rattle.viz_meaning.specs.Section.{is_inside_at, point_of}
use Rattle.viz_meaning.proofs.ListLemmas.{contains-map, contains-unmap, flat-map, all-flat, all-unmap}
use Rattle.viz_cells.specs.Steps.Keys.{IsEdgeKey, high_of, key_of, low_of}
use Rattle.viz_cells.specs.Steps.Numbered.{AreKeysOf}
use Rattle.viz_cells.proofs.EdgeLemmas.{AreGiven, flags_of}
use Rattle.viz_cells.proofs.KeyLemmas.{by-halves}
use Rattle.viz_clip_meaning.specs.declared.vertex.Vertex.{Vertex}
use Rattle.viz_clip_meaning.specs.declared.vertex.Vertex.TheVariants.{Corner, Cut}
use Rattle.viz_clip_meaning.specs.Vertices.{cut, vertex_cmp}
use Rattle.viz_clip_meaning.specs.Clip.{clipped_tets, tets_in, vertices_of}
use Rattle.viz_clip_meaning.specs.Order.{ascending}
use Rattle.viz_clip_meaning.proofs.SetLemmas.{ascending-is, in-ascending, in_order-sorted, numbers-exact, vertices-exact}
use Rattle.viz_clip_meaning.specs.Solids.{kept_solid, kept_tets, split}
use Rattle.viz_clip_meaning.proofs.SpotLemmas.{less, vertex_total}
use Rattle.viz_clip.specs.declared.numbers.Numbers.{Numbers}
use Rattle.viz_clip.specs.Steps.Corners.{flags_at, inside_of, outside_of}
use Rattle.viz_clip.specs.Steps.Keys.{IsTet, cell_keys, cut_keys, keys_in}
use Rattle.viz_clip.specs.Steps.Numbers.{CanCut, CanNumber, corner_number, cut_number, numbered_in, rank_among, ranks_inside}
use Rattle.viz_clip.specs.Steps.Vertices.{IsKept, cut_leaves, cut_of, leaf_at, tets_at, vertices_in}
use Rattle.viz_clip.proofs.CellLemmas.{cell-rows, leaf-order}
use Rattle.viz_clip.proofs.CornerLemmas.{all-ascending}
use Rattle.viz_clip.proofs.ListLemmas.{all-flat_map, all-kept, contains-deep, contains-flat, from-flat, has-cut, in-kept, kept-false, kept-true}
use Rattle.viz_clip.proofs.RowLemmas.{IsNamed, Shape, rows-all, rows-corners, rows-cuts, rows-four, rows-named, shape}
use Rattle.viz_clip.proofs.VertexLemmas.{inside-true, corner-at, corner-below, corner_count, cut-named, key-at, stands, vertex-count, vertices-sorted, vertices_by, inside-below}
use Rattle.viz_sheet.proofs.PairOrder.{compare_as_ranks}

greater : (i j : ℕ) → j < i → nat_cmp i j ≡ Greater
greater i j h = grind (arith)

-- what the passes of a clip have made of a sheet of tetrahedra
pub record Clips (f : Form) (s : SheetData) (cells : List (List ℕ)) (keys : List ℕ) (n : Numbers) : Type 0 where
  pub given : AreGiven s
  pub sized : All (λ m. length m ≡ 1) s.names
  pub tets : All (IsTet (length s.names)) cells
  pub used : AreUsed (length s.names) cells
  pub named : by_names s.names cells ≡ s.cells
  pub of : AreKeysOf (cell_keys (flags_of f s.points) cells) keys
  pub corners : n.corners.items ≡ map (kept_rank (flags_of f s.points)) (range_with_len 0 (length (flags_of f s.points)))
  pub count : n.count ≡ corner_count (flags_of f s.points)
  pub keyed : n.keys.items ≡ keys

-- a key is that of an inside and an outside corner
pub record CutOf (first last : List ℕ) (key : ℕ) : Type 0 where
  pub i : ℕ
  pub j : ℕ
  pub has_i : Contains first i
  pub has_j : Contains last j
  pub is : key_of i j ≡ key

cut-from : (first last : List ℕ) (key : ℕ) → Contains (cut_keys first last) key → CutOf first last key
cut-from first last key c =
    let from = from-flat (λ i. map (key_of i) last) first key c in
    let u = contains-unmap (key_of from.item) last key from.gives in
    record { i = from.item; j = u.0; has_i = from.among; has_j = u.1; is = u.2 }

-- and of some cell
pub record KeyCell (flags : List Bool) (cells : List (List ℕ)) (key : ℕ) : Type 0 where
  pub cell : List ℕ
  pub among : Contains cells cell
  pub ends : CutOf (inside_of flags cell) (outside_of flags cell) key

pub key-cell : (flags : List Bool) (cells : List (List ℕ)) (key : ℕ) → Contains (flat_map (λ p. p) (cell_keys flags cells)) key → KeyCell flags cells key
unfolding keys_in
key-cell flags cells key c =
    let from = from-flat (λ p. p) (cell_keys flags cells) key c in
    let u = contains-unmap (keys_in flags) cells from.item from.among in
    record {
      cell = u.0;
      among = u.1;
      ends = cut-from (inside_of flags u.0) (outside_of flags u.0) key (subst (λ p. Contains p key) (sym u.2) from.gives);
    }

pub cell-key : (flags : List Bool) (cells : List (List ℕ)) (cell : List ℕ) (i j : ℕ) → Contains cells cell → Contains (inside_of flags cell) i → Contains (outside_of flags cell) j
    → Contains (flat_map (λ p. p) (cell_keys flags cells)) (key_of i j)
unfolding keys_in
cell-key flags cells cell i j c hi hj =
    contains-flat (λ p. p) (cell_keys flags cells) (keys_in flags cell) (key_of i j) (contains-map (keys_in flags) cells cell c)
    (has-cut (inside_of flags cell) (outside_of flags cell) i j hi hj)

-- ---- a cell's corners

pub first-inside : (flags : List Bool) (cell : List ℕ) → All (λ i. get_or flags i false ≡ true) (inside_of flags cell)
first-inside flags cell = kept-true (λ r. get_or flags r false) (ascending nat_cmp cell)

pub last-outside : (flags : List Bool) (cell : List ℕ) → All (λ i. get_or flags i false ≡ false) (outside_of flags cell)
last-outside flags cell = kept-false (λ r. get_or flags r false) (ascending nat_cmp cell)

pub first-below : (n : ℕ) (flags : List Bool) (cell : List ℕ) → All (λ r. r < n) cell → All (λ r. r < n) (inside_of flags cell)
first-below n flags cell h = all-kept (λ r. r < n) (flags_at flags cell) (ascending nat_cmp cell) (all-ascending (λ r. r < n) cell h)

pub last-below : (n : ℕ) (flags : List Bool) (cell : List ℕ) → All (λ r. r < n) cell → All (λ r. r < n) (outside_of flags cell)
last-below n flags cell h = all-kept (λ r. r < n) (map not (flags_at flags cell)) (ascending nat_cmp cell) (all-ascending (λ r. r < n) cell h)

differ : (flags : List Bool) (i j : ℕ) → get_or flags i false ≡ true → get_or flags j false ≡ false → i ≢ j
differ flags i j a b e = true≢false (sym a ∙ ap (λ k. get_or flags k false) e ∙ b)

-- two ends of a cut edge
pub record IsCutEdge (count : ℕ) (flags : List Bool) (i j : ℕ) : Type 0 where
  pub inside : get_or flags i false ≡ true
  pub outside : get_or flags j false ≡ false
  pub first : i < count
  pub last : j < count
  pub differ : i ≢ j

pub cut-edge : (count : ℕ) (flags : List Bool) (cell : List ℕ) (i j : ℕ) → All (λ r. r < count) cell → Contains (inside_of flags cell) i → Contains (outside_of flags cell) j → IsCutEdge count flags i j
cut-edge count flags cell i j h ci cj =
    let a = All-contains (λ r. get_or flags r false ≡ true) (inside_of flags cell) i (first-inside flags cell) ci in
    let b = All-contains (λ r. get_or flags r false ≡ false) (outside_of flags cell) j (last-outside flags cell) cj in
    record {
      inside = a;
      outside = b;
      first = All-contains (λ r. r < count) (inside_of flags cell) i (first-below count flags cell h) ci;
      last = All-contains (λ r. r < count) (outside_of flags cell) j (last-below count flags cell h) cj;
      differ = differ flags i j a b;
    }

pub edge-key : (count : ℕ) (flags : List Bool) (i j : ℕ) → count ≤ 2 ^ 32 → IsCutEdge count flags i j → IsEdgeKey count (key_of i j)
edge-key count flags i j few e =
    let P : ℕ → ℕ → Type 0 = λ a b. (a < b) × (b < count) in
    let both = by-halves P i j e.differ (omega (arith, few, e.first)) (omega (arith, few, e.last)) (λ r. (r, e.last)) (λ r. (r, e.first)) in
    record { rises = both.0; below = both.1 }

-- the vertices of each kept tetrahedron ascend
tets-sorted : (inside : List Bool) (leaves : List ℕ) → All (IsStrictlySortedBy vertex_cmp) (kept_tets inside leaves)
tets-sorted inside leaves = in_order-sorted vertex_total (split vertex_cmp (kept_solid (kept inside leaves) (kept (map not inside) leaves)))

-- numbers of vertices that ascend are apart
apart-sorted : (g : ℕ → Vertex) (xs : List ℕ) → IsStrictlySortedBy vertex_cmp (map g xs) → AreApart xs
unfolding IsStrictlySortedBy
apart-sorted g [] s = tt
apart-sorted g (x ∷ xs) s = (others xs s.0, apart-sorted g xs s.1)
  where
    others : (ys : List ℕ) → AllByRecursion (λ v. vertex_cmp (g x) v ≡ Less) (map g ys) → All (λ y. x ≢ y) ys
    others [] a = All-nil (λ y. x ≢ y)
    others (y ∷ ys) a =
        All-cons (λ z. x ≢ z) y ys
        (λ e. true≢false (ap is_lt (sym a.0 ∙ ap (λ z. vertex_cmp (g x) (g z)) (sym e) ∙ tied_itself vertex_total (g x))))
        (others ys a.1)

-- a cell has numbers for its corners and cuts
pub can-cut : (inside : List Bool) (cells : List (List ℕ)) (n : Numbers) (cell : List ℕ) → CanNumber inside cells n → IsTet (length inside) cell → Contains cells cell
    → CanCut n (inside_of inside cell) (outside_of inside cell)
unfolding keys_in
can-cut inside cells n cell can tet c =
    let size : length n.corners.items ≡ length inside =
    ap length can.corners ∙ length-map (range_with_len 0 (length inside)) (kept_rank inside) ∙ length-range_with_len 0 (length inside) in
    let keys = cut_keys (inside_of inside cell) (outside_of inside cell) in
    record {
      ascending = can.keys.ascending;
      few = can.few;
      below = subst (λ m. All (λ r. r < m) (inside_of inside cell)) (sym size) (first-below (length inside) inside cell tet.cell.below);
      has = λ i d l.
          (can.keys.members (get_or keys i d)).1
          (contains-flat (λ p. p) (cell_keys inside cells) (keys_in inside cell) (get_or keys i d) (contains-map (keys_in inside) cells cell c) (Contains-get_or keys i d l));
    }

module _ (f : Form) (s : SheetData) (cells : List (List ℕ)) (keys : List ℕ) (n : Numbers) (k : Clips f s cells keys n) where
  abbrev flags : List Bool
  flags = flags_of f s.points

  abbrev vertices : List Vertex
  vertices = vertices_by s.names flags keys

  abbrev at : ℕ → Vertex
  at r = get_or vertices r (Corner 0)

  abbrev total : ℕ
  total = corner_count flags + length keys

  matched : length flags ≡ length s.names
  matched = length-map s.points (is_inside_at f) ∙ k.given.matched

  -- each key is that of a cut edge
  pub key-edge : (key : ℕ) → Contains keys key → (i : ℕ) × (j : ℕ) × IsCutEdge (length s.names) flags i j × (key_of i j ≡ key)
  key-edge key c =
      let from = key-cell flags cells key ((k.of.members key).0 c) in
      let tet = All-contains (IsTet (length s.names)) cells from.cell k.tets from.among in
      (from.ends.i, from.ends.j, cut-edge (length s.names) flags from.cell from.ends.i from.ends.j tet.cell.below from.ends.has_i from.ends.has_j, from.ends.is)

  pub edges : All (IsEdgeKey (length s.names)) keys
  edges i d l =
      let e = key-edge (get_or keys i d) (Contains-get_or keys i d l) in
      subst (IsEdgeKey (length s.names)) e.3 (edge-key (length s.names) flags e.0 e.1 k.given.few e.2)

  pub sorted : IsStrictlySortedBy vertex_cmp vertices
  sorted = vertices-sorted s.names flags keys k.given.ascending k.sized matched k.of.ascending edges

  corner-number : (r : ℕ) → r < length s.names → corner_number n r ≡ kept_rank flags r
  unfolding corner_number
  corner-number r l =
      ap (λ c. get_or c r 0) k.corners
      ∙ get_or-map-range_with_len (kept_rank flags) 0 (length flags) r r 0 (omega (arith, matched, l)) (zero-plus r)
    where
      zero-plus : (m : ℕ) → 0 + m ≡ m
      zero-plus m = omega arith

  -- the vertex of a corner's number
  pub numbered-corner : (r : ℕ) → r < length s.names → get_or flags r false ≡ true → at (corner_number n r) ≡ Corner (leaf_at s.names r)
  numbered-corner r l m = ap at (corner-number r l) ∙ corner-at s.names flags keys r (omega (arith, matched, l)) m

  corner-number_below : (r : ℕ) → r < length s.names → get_or flags r false ≡ true → corner_number n r < total
  corner-number_below r l m = let b = corner-below flags r m in omega (arith, b, corner-number r l)

  cut-number : (i j : ℕ) → cut_number n i j ≡ corner_count flags + rank_among keys (key_of i j)
  unfolding cut_number
  cut-number i j = ap₂ (λ a l. a + rank_among l (key_of i j)) k.count k.keyed

  -- the vertex of a cut's number
  pub numbered-cut : (i j : ℕ) → IsCutEdge (length s.names) flags i j → Contains keys (key_of i j) → at (cut_number n i j) ≡ cut (leaf_at s.names i) (leaf_at s.names j)
  numbered-cut i j e c =
      let there = stands keys (key_of i j) k.of.ascending c in
      ap at (cut-number i j)
      ∙ key-at s.names flags keys (rank_among keys (key_of i j)) there.below
      ∙ ap (λ key. cut_of (cut_leaves s.names key)) there.is
      ∙ cut-named s.names i j k.given.ascending k.sized k.given.few e.differ e.first e.last

  cut-number_below : (i j : ℕ) → Contains keys (key_of i j) → cut_number n i j < total
  cut-number_below i j c = let there = stands keys (key_of i j) k.of.ascending c in omega (arith, there.below, cut-number i j)

  -- ---- a cell

  module _ (cell : List ℕ) (among : Contains cells cell) where
    tet : IsTet (length s.names) cell
    tet = All-contains (IsTet (length s.names)) cells cell k.tets among

    has-key : (i j : ℕ) → Contains (inside_of flags cell) i → Contains (outside_of flags cell) j → Contains keys (key_of i j)
    has-key i j ci cj = (k.of.members (key_of i j)).1 (cell-key flags cells cell i j among ci cj)

    edge : (i j : ℕ) → Contains (inside_of flags cell) i → Contains (outside_of flags cell) j → IsCutEdge (length s.names) flags i j
    edge i j ci cj = cut-edge (length s.names) flags cell i j tet.cell.below ci cj

    pub all-cuts : (P : ℕ → ℕ → Type 0) → ((i j : ℕ) → Contains (inside_of flags cell) i → Contains (outside_of flags cell) j → P i j) → All (λ i. All (P i) (outside_of flags cell)) (inside_of flags cell)
    all-cuts P h a d al b e bl =
        h (get_or (inside_of flags cell) a d) (get_or (outside_of flags cell) b e) (Contains-get_or (inside_of flags cell) a d al) (Contains-get_or (outside_of flags cell) b e bl)

    pub all-corners : (P : ℕ → Type 0) → ((i : ℕ) → i < length s.names → get_or flags i false ≡ true → P i) → All P (inside_of flags cell)
    all-corners P h a d al =
        h (get_or (inside_of flags cell) a d) (first-below (length s.names) flags cell tet.cell.below a d al) (first-inside flags cell a d al)

    cell-shape : Shape (inside_of flags cell) (outside_of flags cell)
    cell-shape = shape flags cell tet.four tet.cell.apart

    order-named : (i j : ℕ) → IsCutEdge (length s.names) flags i j → nat_cmp (leaf_at s.names i) (leaf_at s.names j) ≡ nat_cmp i j
    order-named i j e =
        ⊎_elim
        (λ l. less (leaf_at s.names i) (leaf_at s.names j) (leaf-order s.names i j k.given.ascending k.sized l e.last) ∙ sym (less i j l))
        (λ g. let l : j < i = omega (arith, g, e.differ) in greater (leaf_at s.names i) (leaf_at s.names j) (leaf-order s.names j i k.given.ascending k.sized l e.first) ∙ sym (greater i j l))
        (cases_lt i j)

    pub cell-named : map (map at) (numbered_in flags n cell) ≡ tets_in f s (names_at s.names cell)
    cell-named =
        rows-named at (leaf_at s.names) (corner_number n) (cut_number n) Corner cut (inside_of flags cell) (outside_of flags cell) cell-shape
        (all-corners (λ i. at (corner_number n i) ≡ Corner (leaf_at s.names i)) numbered-corner)
        (all-cuts (λ i j. IsNamed at (leaf_at s.names) (cut_number n) cut i j)
        (λ i j ci cj. record { cut = numbered-cut i j (edge i j ci cj) (has-key i j ci cj); order = order-named i j (edge i j ci cj) }))
        ∙ sym (cell-rows f s cell k.given k.sized tet)

    pub cell-below : All (All (λ r. r < total)) (numbered_in flags n cell)
    cell-below =
        rows-all (corner_number n) (cut_number n) (λ r. r < total) (inside_of flags cell) (outside_of flags cell) cell-shape
        (all-corners (λ i. corner_number n i < total) corner-number_below)
        (all-cuts (λ i j. cut_number n i j < total) (λ i j ci cj. cut-number_below i j (has-key i j ci cj)))

  -- ---- all cells

  abbrev pub numbered : List (List ℕ)
  numbered = flat_map (numbered_in flags n) cells

  cells-named : (cs : List (List ℕ)) → ((c : List ℕ) → Contains cs c → Contains cells c) → map (map at) (flat_map (numbered_in flags n) cs) ≡ flat_map (tets_in f s) (by_names s.names cs)
  cells-named [] h = refl
  cells-named (c ∷ cs) h =
      map-append (map at) (numbered_in flags n c) (flat_map (numbered_in flags n) cs)
      ∙ ap₂ (λ a b. a ++ b) (cell-named c (h c (here c cs))) (cells-named cs (λ d m. h d (there c cs d m)))

  pub tets-named : tets_at vertices numbered ≡ clipped_tets f s
  tets-named = cells-named cells (λ c m. m) ∙ ap (flat_map (tets_in f s)) k.named

  pub numbers-below : All (All (λ r. r < total)) numbered
  numbers-below = all-flat_map (All (λ r. r < total)) (numbered_in flags n) cells (λ i d l. cell-below (get_or cells i d) (Contains-get_or cells i d l))

  -- ---- vertices

  abbrev flat : List (List Vertex) → List Vertex
  flat ts = flat_map (λ t. t) ts

  -- a number that a cell has is one of the numbers of a vertex of the result
  has-number : (cell : List ℕ) (r : ℕ) → Contains cells cell → Contains (flat_map (λ t. t) (numbered_in flags n cell)) r → Contains (flat_map (λ t. t) numbered) r
  has-number cell r c d = contains-deep (numbered_in flags n) cells cell r c d

  has-corner : (r : ℕ) → r < length s.names → get_or flags r false ≡ true → Contains (flat_map (λ t. t) numbered) (corner_number n r)
  has-corner r l m =
      let from = from-flat (λ c. c) cells r (k.used r l) in
      let inside : Contains (inside_of flags from.item) r =
      in-kept (λ q. get_or flags q false) (ascending nat_cmp from.item) r (in-ascending nat_cmp_total numbers-exact from.item r from.gives) m in
      has-number from.item (corner_number n r) from.among
      (All-contains (λ i. Contains (flat_map (λ t. t) (numbered_in flags n from.item)) (corner_number n i)) (inside_of flags from.item) r
      (rows-corners (corner_number n) (cut_number n) (inside_of flags from.item) (outside_of flags from.item) (cell-shape from.item from.among)) inside)

  has-cut_number : (key : ℕ) → (c : Contains keys key) → (i : ℕ) × (j : ℕ) × IsCutEdge (length s.names) flags i j × (key_of i j ≡ key) × Contains (flat_map (λ t. t) numbered) (cut_number n i j)
  has-cut_number key c =
      let from = key-cell flags cells key ((k.of.members key).0 c) in
      let i = from.ends.i in
      let j = from.ends.j in
      let first = inside_of flags from.cell in
      let last = outside_of flags from.cell in
      let all = rows-cuts (corner_number n) (cut_number n) first last (cell-shape from.cell from.among) in
      let here_too = All-contains (λ b. Contains (flat_map (λ t. t) (numbered_in flags n from.cell)) (cut_number n i b)) last j
      (All-contains (λ a. All (λ b. Contains (flat_map (λ t. t) (numbered_in flags n from.cell)) (cut_number n a b)) last) first i all from.ends.has_i) from.ends.has_j in
      (i, j, edge from.cell from.among i j from.ends.has_i from.ends.has_j, from.ends.is, has-number from.cell (cut_number n i j) from.among here_too)

  flat-named : flat (clipped_tets f s) ≡ map at (flat_map (λ t. t) numbered)
  flat-named = ap flat (sym tets-named) ∙ flat-map at numbered

  below-flat : All (λ r. r < total) (flat_map (λ t. t) numbered)
  below-flat = all-flat (λ r. r < total) numbered numbers-below

  of-tets : (v : Vertex) → Contains (flat (clipped_tets f s)) v → Contains vertices v
  of-tets v c =
      let u = contains-unmap at (flat_map (λ t. t) numbered) v (subst (λ l. Contains l v) flat-named c) in
      let l : u.0 < length vertices = subst (λ m. u.0 < m) (sym (vertex-count s.names flags keys)) (All-contains (λ r. r < total) (flat_map (λ t. t) numbered) u.0 below-flat u.1) in
      subst (Contains vertices) u.2 (Contains-get_or vertices u.0 (Corner 0) l)

  in-tets : (r : ℕ) (v : Vertex) → Contains (flat_map (λ t. t) numbered) r → at r ≡ v → Contains (flat (clipped_tets f s)) v
  in-tets r v c e = subst (λ l. Contains l v) (sym flat-named) (subst (Contains (map at (flat_map (λ t. t) numbered))) e (contains-map at (flat_map (λ t. t) numbered) r c))

  corner-in : (v : Vertex) → Contains (map Corner (map (leaf_at s.names) (ranks_inside flags))) v → Contains (flat (clipped_tets f s)) v
  corner-in v c =
      let u = contains-unmap Corner (map (leaf_at s.names) (ranks_inside flags)) v c in
      let w = contains-unmap (leaf_at s.names) (ranks_inside flags) u.0 u.1 in
      let l : w.0 < length flags = All-contains (λ r. r < length flags) (ranks_inside flags) w.0 (inside-below flags) w.1 in
      let within : w.0 < length s.names = omega (arith, matched, l) in
      let m : get_or flags w.0 false ≡ true = All-contains (λ r. get_or flags r false ≡ true) (ranks_inside flags) w.0 (inside-true flags) w.1 in
      in-tets (corner_number n w.0) v (has-corner w.0 within m) (numbered-corner w.0 within m ∙ ap Corner w.2 ∙ u.2)

  cut-in : (v : Vertex) → Contains (map cut_of (map (cut_leaves s.names) keys)) v → Contains (flat (clipped_tets f s)) v
  cut-in v c =
      let u = contains-unmap cut_of (map (cut_leaves s.names) keys) v c in
      let w = contains-unmap (cut_leaves s.names) keys u.0 u.1 in
      let there = has-cut_number w.0 w.1 in
      let i = there.0 in
      let j = there.1 in
      let e = there.2 in
      let has : Contains keys (key_of i j) = subst (Contains keys) (sym there.3) w.1 in
      in-tets (cut_number n i j) v there.4
      (numbered-cut i j e has
      ∙ sym (cut-named s.names i j k.given.ascending k.sized k.given.few e.differ e.first e.last)
      ∙ ap (λ key. cut_of (cut_leaves s.names key)) there.3 ∙ ap cut_of w.2 ∙ u.2)

  pub vertices-are : vertices ≡ vertices_of (clipped_tets f s)
  vertices-are =
      ascending-is vertex_total vertices-exact vertices (flat (clipped_tets f s)) sorted
      (λ v c. ⊎_elim (corner-in v) (cut-in v) (Contains-append_cases (map Corner (map (leaf_at s.names) (ranks_inside flags))) (map cut_of (map (cut_leaves s.names) keys)) v c))
      of-tets

  -- ---- cells by numbers

  four-each : All (λ t. length t ≡ 4) numbered
  four-each =
      all-flat_map (λ (t : List ℕ). length t ≡ 4) (numbered_in flags n) cells
      (λ i d l.
      let c = get_or cells i d in
      rows-four (corner_number n) (cut_number n) (inside_of flags c) (outside_of flags c) (cell-shape c (Contains-get_or cells i d l)))

  sorted-each : All (IsStrictlySortedBy vertex_cmp) (map (map at) numbered)
  sorted-each =
      subst (All (IsStrictlySortedBy vertex_cmp)) (sym tets-named)
      (all-flat_map (IsStrictlySortedBy vertex_cmp) (tets_in f s) s.cells
      (λ i d l.
      tets-sorted (map (λ m. is_inside_at f (point_of s m)) (each_once (get_or s.cells i d))) (flat_map (λ m. m) (each_once (get_or s.cells i d)))))

  one-vertex : (a b : ℕ) → a < total → b < total → at a ≡ at b → a ≡ b
  one-vertex a b al bl e =
      let size = vertex-count s.names flags keys in
      numbers-exact a b
      (sym (compare_as_ranks vertex_total vertices a b (Corner 0) sorted (omega (arith, size, al)) (omega (arith, size, bl)))
      ∙ ap (λ v. vertex_cmp v (at b)) e ∙ tied_itself vertex_total (at b))

  pub whole-cells : All (IsCell total) numbered
  whole-cells i d l =
      let t = get_or numbered i d in
      let four = four-each i d l in
      record {
        some = omega (arith, four);
        most = omega (arith, four);
        below = numbers-below i d l;
        apart = apart-sorted at t (all-unmap (IsStrictlySortedBy vertex_cmp) (map at) numbered sorted-each i d l);
      }

  pub all-used : AreUsed total numbered
  all-used r l =
      let v = at r in
      let size = vertex-count s.names flags keys in
      let here_too : Contains vertices v = Contains-get_or vertices r (Corner 0) (omega (arith, size, l)) in
      let in_result : Contains (flat (clipped_tets f s)) v =
      ⊎_elim (corner-in v) (cut-in v) (Contains-append_cases (map Corner (map (leaf_at s.names) (ranks_inside flags))) (map cut_of (map (cut_leaves s.names) keys)) v here_too) in
      let u = contains-unmap at (flat_map (λ t. t) numbered) v (subst (λ m. Contains m v) flat-named in_result) in
      let same = one-vertex u.0 r (All-contains (λ q. q < total) (flat_map (λ t. t) numbered) u.0 below-flat u.1) l u.2 in
      subst (Contains (flat_map (λ t. t) numbered)) same u.1

  names-count : length (leaf_names total) ≡ total
  names-count = length-map (range_with_len 0 total) (λ leaf. leaf ∷ []) ∙ length-range_with_len 0 total

  -- the rule of a clipped volume
  pub is-kept : (points : List Point) → length points ≡ total → total < 2 ^ 32
      → IsKept (map (leaf_at s.names) (ranks_inside flags)) (map (cut_leaves s.names) keys) points numbered
  is-kept points size few =
      let first : length (map (leaf_at s.names) (ranks_inside flags)) ≡ corner_count flags = length-map (ranks_inside flags) (leaf_at s.names) in
      let last : length (map (cut_leaves s.names) keys) ≡ length keys = length-map keys (cut_leaves s.names) in
      let both : length (map (leaf_at s.names) (ranks_inside flags)) + length (map (cut_leaves s.names) keys) ≡ total = ap₂ (λ a b. a + b) first last in
      record {
        ascending = sorted;
        few = omega (arith, both, few);
        ranks = subst (λ m. AreRanks (leaf_names m) points numbered) (sym both) (record {
          rule = record {
            ascending = leaf_names-ascend total;
            matched = size ∙ sym names-count;
            few = omega (arith, names-count, few);
            each = subst (λ m. All (IsCell m) numbered) (sym names-count) whole-cells;
          };
          used = λ r l. all-used r (omega (arith, names-count, l));
        });
      }
