-- What the passes of a clip make, together.
use Rattle.std.proofs.Common.{◌≡◌, ℕ, ◌+◌, ◌^◌, ◌<◌, ◌≤◌, ℤ, pos, Bool, List, [], length, map, get_or, refl, sym, ap, ap₂, subst, ◌∙◌, arith}
use Rattle.std.specs.Prelude.{int_le}
use Rattle.std.specs.List.{All, Contains, flat_map, range_with_len}
use Rattle.std.proofs.lemmas.List.{length-append, length-map}
use Rattle.std.proofs.lemmas.List.Elements.{All-contains, All-from_get_or, Contains-get_or}
use Rattle.viz_fraction.specs.declared.forms.Form.{Form}
use Rattle.viz_fraction.specs.Forms.{IsNarrowValue, value_of}
use Rattle.viz_fraction.specs.Points.{IsNarrow, Point}
use Rattle.std.proofs.lemmas.List.FromFn.{length-range_with_len}
use Rattle.viz_sheet.specs.Kept.{kept_rank}
use Rattle.viz_sheet.proofs.KeptLemmas.{kept-most}
use Rattle.viz_sheet.specs.Sheet.{SheetData}
use Rattle.viz_sheet.specs.Ranked.{AreRanks, IsCell, by_names, names_at}
use Rattle.viz_meaning.specs.Narrow.{IsNarrowCell}
use Rattle.viz_meaning.specs.Section.{is_inside_at, point_of, zero_point}
use Rattle.viz_meaning.proofs.ListLemmas.{all-map, all-unmap, contains-map, map-twice}
use Rattle.viz_cells.specs.Steps.Crossings.{point_at}
use Rattle.viz_cells.specs.Steps.Keys.{IsEdgeKey}
use Rattle.viz_cells.specs.Steps.Numbered.{AreKeysOf}
use Rattle.viz_cells.proofs.EdgeLemmas.{AreGiven, flags_of, point-named}
use Rattle.viz_clip_meaning.specs.declared.vertex.Vertex.{Vertex}
use Rattle.viz_clip_meaning.specs.Clip.{AreNarrowCells, AreTetrahedra, ClippedData, clipped_of, clipped_tets, vertex_point, vertices_of}
use Rattle.viz_clip.specs.declared.numbers.Numbers.{Numbers}
use Rattle.viz_clip.specs.Steps.Cuts.{IsCutAt, IsNarrowCut, cut_point, kept_points}
use Rattle.viz_clip.specs.Steps.Keys.{IsTet, cell_keys}
use Rattle.viz_clip.specs.Steps.Numbers.{CanNumber, numbered_in, ranks_inside}
use Rattle.viz_clip.specs.Steps.Vertices.{IsKept, cut_leaves, leaf_at, tets_at, vertices_in}
use Rattle.viz_clip.proofs.NumberedLemmas.{Clips, IsCutEdge, cut-edge, key-cell, edge-key, is-kept, tets-named, vertices-are}
use Rattle.viz_clip.proofs.PointLemmas.{Cuts, cells-narrow, cuts-narrow, keys-cut, points-are, values-narrow}
use Rattle.viz_clip.proofs.ListLemmas.{from-flat}
use Rattle.viz_clip.proofs.VertexLemmas.{corner_count, inside-below}

-- a sheet of tetrahedra by ranks
pub record Base (s : SheetData) (cells : List (List ℕ)) : Type 0 where
  pub valid : AreRanks s.names s.points cells
  pub named : by_names s.names cells ≡ s.cells
  pub sized : All (λ m. length m ≡ 1) s.names
  pub tetrahedra : AreTetrahedra s

abbrev pub values_in : Form → SheetData → List ℤ
values_in f s = map (value_of f) s.points

pub flags-are : (f : Form) (s : SheetData) → map (int_le (pos 0)) (values_in f s) ≡ flags_of f s.points
flags-are f s = map-twice (int_le (pos 0)) (value_of f) s.points

pub given : (s : SheetData) (cells : List (List ℕ)) → Base s cells → AreGiven s
given s cells b = record { ascending = b.valid.rule.ascending; matched = b.valid.rule.matched; few = b.valid.rule.few }

four : (s : SheetData) (cells : List (List ℕ)) → Base s cells → All (λ c. length c ≡ 4) cells
four s cells b i d l =
    let each = all-unmap (λ c. length c ≡ 4) (names_at s.names) cells (subst (All (λ c. length c ≡ 4)) (sym b.named) b.tetrahedra.each) in
    sym (length-map (get_or cells i d) (λ r. get_or s.names r [])) ∙ each i d l

pub are-tets : (s : SheetData) (cells : List (List ℕ)) → Base s cells → All (IsTet (length s.names)) cells
are-tets s cells b i d l = record { cell = b.valid.rule.each i d l; four = four s cells b i d l }

pub flag-count : (f : Form) (s : SheetData) (cells : List (List ℕ)) → Base s cells → length (flags_of f s.points) ≡ length s.names
flag-count f s cells b = length-map s.points (is_inside_at f) ∙ b.valid.rule.matched

pub are-tets_by : (f : Form) (s : SheetData) (cells : List (List ℕ)) → Base s cells → All (IsTet (length (flags_of f s.points))) cells
are-tets_by f s cells b = subst (λ m. All (IsTet m) cells) (sym (flag-count f s cells b)) (are-tets s cells b)

-- no value is wide where no cell has a wide number
pub narrow-points : (f : Form) (s : SheetData) (cells : List (List ℕ)) → Base s cells → AreNarrowCells f s → All (IsNarrowValue f) s.points
narrow-points f s cells b h =
    All-from_get_or (IsNarrowValue f) s.points zero_point (λ r l.
    let below : r < length s.names = omega (arith, b.valid.rule.matched, l) in
    let from = from-flat (λ c. c) cells r (b.valid.used r below) in
    let named = names_at s.names from.item in
    let is_cell = subst (λ (x : List (List (List ℕ))). Contains x named) b.named (contains-map (names_at s.names) cells from.item from.among) in
    let narrow = All-contains (IsNarrowCell f s) s.cells named h.each is_cell in
    subst (IsNarrowValue f) (point-named s r (given s cells b) below)
    (All-contains (λ m. IsNarrowValue f (point_of s m)) named (get_or s.names r []) narrow.values
    (contains-map (λ q. get_or s.names q []) from.item r from.gives)))

-- cells by ranks have four corners just where they have four names
pub four-both : (s : SheetData) (cells : List (List ℕ)) → by_names s.names cells ≡ s.cells → (All (λ c. length c ≡ 4) cells → AreTetrahedra s) × (AreTetrahedra s → All (λ c. length c ≡ 4) cells)
four-both s cells named = (
  λ h. record {
    each =
        subst (All (λ c. length c ≡ 4)) named
        (all-map (λ c. length c ≡ 4) (names_at s.names) cells (λ i d l. length-map (get_or cells i d) (λ r. get_or s.names r []) ∙ h i d l));
  },
  λ h i d l.
      sym (length-map (get_or cells i d) (λ r. get_or s.names r []))
      ∙ all-unmap (λ c. length c ≡ 4) (names_at s.names) cells (subst (All (λ c. length c ≡ 4)) (sym named) h.each) i d l,
)

pub narrow-values : (f : Form) (s : SheetData) → All (IsNarrowValue f) s.points → All IsNarrow (values_in f s)
narrow-values f s h = all-map IsNarrow (value_of f) s.points (λ i d l. (h i d l).sum)

-- there are no more inside points than points
pub few-corners : (f : Form) (s : SheetData) → corner_count (flags_of f s.points) ≤ length (flags_of f s.points)
few-corners f s =
    let flags = flags_of f s.points in
    let all = range_with_len 0 (length flags) in
    omega (arith, kept-most flags all, length-range_with_len 0 (length flags))

module _ (f : Form) (s : SheetData) (cells : List (List ℕ)) (keys : List ℕ) (b : Base s cells) (of : AreKeysOf (cell_keys (flags_of f s.points) cells) keys) where
  edge-keys : All (IsEdgeKey (length s.names)) keys
  edge-keys i d l =
      let key = get_or keys i d in
      let from = key-cell (flags_of f s.points) cells key ((of.members key).0 (Contains-get_or keys i d l)) in
      let tet = All-contains (IsTet (length s.names)) cells from.cell (are-tets s cells b) from.among in
      let e = cut-edge (length s.names) (flags_of f s.points) from.cell from.ends.i from.ends.j tet.cell.below from.ends.has_i from.ends.has_j in
      subst (IsEdgeKey (length s.names)) from.ends.is (edge-key (length s.names) (flags_of f s.points) from.ends.i from.ends.j b.valid.rule.few e)

  pub edges : All (IsEdgeKey (length s.names)) keys
  edges = edge-keys

  pub cuts : Cuts f s cells keys
  cuts = record {
    given = given s cells b;
    sized = b.sized;
    tets = are-tets s cells b;
    used = b.valid.used;
    named = b.named;
    edges = edge-keys;
    members = λ key c. (of.members key).0 c;
    has = λ key c. (of.members key).1 c;
  }

  pub corners-below : All (λ r. r < length s.names) (ranks_inside (flags_of f s.points))
  corners-below = subst (λ m. All (λ r. r < m) (ranks_inside (flags_of f s.points))) (flag-count f s cells b) (inside-below (flags_of f s.points))

  pub points-below : All (λ r. r < length s.points) (ranks_inside (flags_of f s.points))
  points-below = subst (λ m. All (λ r. r < m) (ranks_inside (flags_of f s.points))) (length-map s.points (is_inside_at f)) (inside-below (flags_of f s.points))

  module _ (n : Numbers) (numbers : n.corners.items ≡ map (kept_rank (flags_of f s.points)) (range_with_len 0 (length (flags_of f s.points)))) (count : n.count ≡ corner_count (flags_of f s.points)) (keyed : n.keys.items ≡ keys) where
    clips : Clips f s cells keys n
    clips = record {
      given = given s cells b;
      sized = b.sized;
      tets = are-tets s cells b;
      used = b.valid.used;
      named = b.named;
      of = of;
      corners = numbers;
      count = count;
      keyed = keyed;
    }

    pub can-number : corner_count (flags_of f s.points) + length keys < 2 ^ 32 → CanNumber (flags_of f s.points) cells n
    can-number few = record {
      corners = numbers;
      few = subst (λ (l : List ℕ). n.count + length l < 2 ^ 32) (sym keyed) (subst (λ m. m + length keys < 2 ^ 32) (sym count) few);
      keys = subst (AreKeysOf (cell_keys (flags_of f s.points) cells)) (sym keyed) of;
    }

    point-count : length (kept_points (ranks_inside (flags_of f s.points)) (values_in f s) keys s.points) ≡ corner_count (flags_of f s.points) + length keys
    point-count =
        length-append (map (point_at s.points) (ranks_inside (flags_of f s.points))) (map (cut_point (values_in f s) s.points) keys)
        ∙ ap₂ (λ p q. p + q) (length-map (ranks_inside (flags_of f s.points)) (point_at s.points)) (length-map keys (cut_point (values_in f s) s.points))

    pub kept : corner_count (flags_of f s.points) + length keys < 2 ^ 32
        → IsKept (map (leaf_at s.names) (ranks_inside (flags_of f s.points))) (map (cut_leaves s.names) keys)
        (kept_points (ranks_inside (flags_of f s.points)) (values_in f s) keys s.points) (flat_map (numbered_in (flags_of f s.points) n) cells)
    kept few = is-kept f s cells keys n clips (kept_points (ranks_inside (flags_of f s.points)) (values_in f s) keys s.points) point-count few

    -- these are the parts of the clipped volume
    pub result-is : (c : ClippedData)
        → c.vertices ≡ vertices_in (map (leaf_at s.names) (ranks_inside (flags_of f s.points))) (map (cut_leaves s.names) keys)
        → c.points ≡ kept_points (ranks_inside (flags_of f s.points)) (values_in f s) keys s.points
        → c.tets ≡ tets_at (vertices_in (map (leaf_at s.names) (ranks_inside (flags_of f s.points))) (map (cut_leaves s.names) keys)) (flat_map (numbered_in (flags_of f s.points) n) cells)
        → c ≡ clipped_of f s
    result-is c vertices points tets =
        let vs = vertices-are f s cells keys n clips in
        data-is c _ _ _ (vertices ∙ vs)
        (points ∙ sym (points-are f s cells keys cuts) ∙ ap (map (vertex_point f s)) vs)
        (tets ∙ tets-named f s cells keys n clips)
      where
        data-is : (c : ClippedData) (vertices : List Vertex) (points : List Point) (tets : List (List Vertex)) → c.vertices ≡ vertices → c.points ≡ points → c.tets ≡ tets
            → c ≡ record { vertices = vertices; points = points; tets = tets }
        data-is c vertices points tets x y z = λ i. record { vertices = x i; points = y i; tets = z i }
