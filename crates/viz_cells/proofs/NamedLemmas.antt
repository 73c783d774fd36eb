-- The section of a sheet by the keys of its ends: cells, names, points, and what is wide.
use Rattle.std.proofs.Common.{◌≡◌, ℕ, suc, ◌<◌, Bool, List, [], ◌∷◌, ◌++◌, length, get_or, map, refl, sym, ap, ap₂, subst, ◌∙◌, arith}
use Rattle.std.specs.List.{All, Contains, flat_map}
use Rattle.std.specs.List.Sorted.{IsStrictlySortedBy}
use Rattle.std.specs.Ordering.{nat_cmp}
use Rattle.std.proofs.lemmas.List.{map-append}
use Rattle.std.proofs.lemmas.List.Elements.{All-nil, All-head, All-tail, All-append, All-get_or}
use Rattle.viz_fraction.specs.declared.forms.Form.{Form}
use Rattle.viz_fraction.specs.Crossings.{edge_crossing}
use Rattle.viz_fraction.specs.Forms.{IsNarrowValue}
use Rattle.viz_sheet.specs.Sheet.{SheetData, AreAscending}
use Rattle.viz_sheet.specs.Ranked.{IsCell, by_names}
use Rattle.viz_sheet.proofs.PairOrder.{pairs_ascend}
use Rattle.viz_meaning.specs.Names.{lesser_end, greater_end, names_of}
use Rattle.viz_meaning.specs.Narrow.{IsNarrowEdge, IsNarrowName, IsNarrowSection}
use Rattle.viz_meaning.specs.Section.{cells_in, crossing_at, is_inside_at, point_of, section_cells}
use Rattle.viz_meaning.proofs.NameSets.{names-from_members, pair-ends}
use Rattle.viz_cells.specs.Steps.Keys.{key_name, low_of, high_of, pair_of, IsEdgeKey}
use Rattle.viz_cells.specs.Steps.Pieces.{keys_in, pieces_of}
use Rattle.viz_cells.specs.Steps.Numbered.{AreKeysOf}
use Rattle.viz_cells.specs.Steps.Crossings.{IsCutKey, IsNarrowKey, key_crossing, point_at}
use Rattle.viz_cells.proofs.EdgeLemmas.{AreGiven, IsWholePiece, flags_of, point-named, cell-named, cut-keys, whole-pieces}
use Rattle.viz_cells.proofs.KeyLemmas.{pairs-sorted, are_pairs, names-by_pairs}
use Rattle.viz_meaning.proofs.ListLemmas.{all-flat, all-among, all-map, all-unmap, flat-map, contains-map, contains-unmap, map-same, map-twice}

-- ---- all cells

cells-named : (f : Form) (s : SheetData) (cells : List (List ℕ)) → AreGiven s → All (IsCell (length s.names)) cells
    → flat_map (cells_in (λ n. is_inside_at f (point_of s n))) (by_names s.names cells) ≡ map (map (key_name s.names)) (pieces_of (flags_of f s.points) cells)
unfolding pieces_of
cells-named f s [] g h = refl
cells-named f s (c ∷ cs) g h =
    ap₂ (λ a b. a ++ b) (cell-named f s c g (All-head (IsCell (length s.names)) c cs h)) (cells-named f s cs g (All-tail (IsCell (length s.names)) c cs h))
    ∙ sym (map-append (map (key_name s.names)) (keys_in (flags_of f s.points) c) (flat_map (keys_in (flags_of f s.points)) cs))

pub section-cells : (f : Form) (s : SheetData) (cells pieces : List (List ℕ)) → AreGiven s → All (IsCell (length s.names)) cells → by_names s.names cells ≡ s.cells
    → pieces ≡ pieces_of (flags_of f s.points) cells → section_cells f s ≡ map (map (key_name s.names)) pieces
section-cells f s cells pieces g h same is =
    ap (flat_map (cells_in (λ n. is_inside_at f (point_of s n)))) (sym same) ∙ cells-named f s cells g h ∙ ap (map (map (key_name s.names))) (sym is)

pub all-pieces_of : (P : List ℕ → Type 0) (inside : List Bool) (cells : List (List ℕ)) → ((k : ℕ) (d : List ℕ) → k < length cells → All P (keys_in inside (get_or cells k d))) → All P (pieces_of inside cells)
unfolding pieces_of
all-pieces_of P inside [] h = All-nil P
all-pieces_of P inside (c ∷ cs) h =
    All-append P (keys_in inside c) (flat_map (keys_in inside) cs) (h 0 c (omega arith)) (all-pieces_of P inside cs (λ k d l. h (suc k) d (omega arith)))

pub section-cut : (f : Form) (s : SheetData) (cells pieces : List (List ℕ)) → AreGiven s → All (IsCell (length s.names)) cells
    → pieces ≡ pieces_of (flags_of f s.points) cells → All (All (IsCutKey f s.points)) pieces
section-cut f s cells pieces g h is =
    subst (All (All (IsCutKey f s.points))) (sym is)
    (all-pieces_of (All (IsCutKey f s.points)) (flags_of f s.points) cells (λ k d l. cut-keys f s (get_or cells k d) g (h k d l)))

pub section-whole : (f : Form) (s : SheetData) (cells pieces : List (List ℕ)) → AreGiven s → All (IsCell (length s.names)) cells
    → pieces ≡ pieces_of (flags_of f s.points) cells → All IsWholePiece pieces
section-whole f s cells pieces g h is =
    subst (All IsWholePiece) (sym is)
    (all-pieces_of IsWholePiece (flags_of f s.points) cells (λ k d l. whole-pieces (flags_of f s.points) (length s.names) (get_or cells k d) g.few (h k d l)))

-- ---- keys

-- what holds of the keys of all pieces holds of the list of keys
pub all-keys : (P : ℕ → Type 0) (pieces : List (List ℕ)) (keys : List ℕ) → AreKeysOf pieces keys → All (All P) pieces → All P keys
all-keys P pieces keys of h = all-among P keys (flat_map (λ piece. piece) pieces) (all-flat P pieces h) (λ k c. (of.members k).0 c)

edge_of : (f : Form) (s : SheetData) (k : ℕ) → AreGiven s → IsCutKey f s.points k → IsEdgeKey (length s.names) k
edge_of f s k g h = record { rises = h.rises; below = omega (arith, g.matched, h.below) }

pub edge-keys : (f : Form) (s : SheetData) (keys : List ℕ) → AreGiven s → All (IsCutKey f s.points) keys → All (IsEdgeKey (length s.names)) keys
edge-keys f s keys g h k d l = edge_of f s (get_or keys k d) g (h k d l)

-- the names of keys ascend
pub names-ascend : (size : ℕ) (s : SheetData) (keys : List ℕ) → AreGiven s → All (λ n. length n ≡ size) s.names → IsStrictlySortedBy nat_cmp keys
    → All (IsEdgeKey (length s.names)) keys → AreAscending (map (key_name s.names) keys)
names-ascend size s keys g sized sorted edges =
    subst AreAscending (names-by_pairs s.names keys)
    (pairs_ascend size s.names (map pair_of keys) (record { sized = sized; ascending = g.ascending }) (are_pairs (length s.names) keys edges) (pairs-sorted keys sorted))

-- and they are the names of the section
pub names-are : (size : ℕ) (f : Form) (s : SheetData) (pieces : List (List ℕ)) (keys : List ℕ) → AreGiven s → All (λ n. length n ≡ size) s.names → AreKeysOf pieces keys
    → All (IsEdgeKey (length s.names)) keys → section_cells f s ≡ map (map (key_name s.names)) pieces → map (key_name s.names) keys ≡ names_of (section_cells f s)
names-are size f s pieces keys g sized of edges is =
    let name = key_name s.names in
    let all = flat_map (λ piece. piece) pieces in
    let flat : flat_map (λ cell. cell) (section_cells f s) ≡ map name all = ap (flat_map (λ cell. cell)) is ∙ flat-map name pieces in
    names-from_members (map name keys) (section_cells f s) (names-ascend size s keys g sized of.ascending edges)
    (λ n c.
    let k = contains-unmap name keys n c in
    subst (λ l. Contains l n) (sym flat) (subst (Contains (map name all)) k.2 (contains-map name all k.0 ((of.members k.0).0 k.1))))
    (λ n c.
    let k = contains-unmap name all n (subst (λ l. Contains l n) flat c) in
    subst (Contains (map name keys)) k.2 (contains-map name keys k.0 ((of.members k.0).1 k.1)))

-- ---- points

-- the ends of the name of a key, and their points
pub record HasPoints (s : SheetData) (k : ℕ) : Type 0 where
  pub lesser : point_of s (lesser_end (key_name s.names k)) ≡ point_at s.points (low_of k)
  pub greater : point_of s (greater_end (key_name s.names k)) ≡ point_at s.points (high_of k)

pub key-points : (size : ℕ) (s : SheetData) (k : ℕ) → AreGiven s → All (λ n. length n ≡ size) s.names → IsEdgeKey (length s.names) k → HasPoints s k
unfolding key_name
key-points size s k g sized h =
    let low : low_of k < length s.names = omega (arith, h.rises, h.below) in
    let m = get_or s.names (low_of k) [] in
    let n = get_or s.names (high_of k) [] in
    let one : length m ≡ length n = All-get_or (λ n. length n ≡ size) s.names (low_of k) [] low sized ∙ sym (All-get_or (λ n. length n ≡ size) s.names (high_of k) [] h.below sized) in
    let ends = pair-ends m n one in
    record {
      lesser = ap (point_of s) ends.lesser ∙ point-named s (low_of k) g low;
      greater = ap (point_of s) ends.greater ∙ point-named s (high_of k) g h.below;
    }

crossing-key : (size : ℕ) (f : Form) (s : SheetData) (k : ℕ) → AreGiven s → All (λ n. length n ≡ size) s.names → IsEdgeKey (length s.names) k
    → crossing_at f s (key_name s.names k) ≡ key_crossing f s.points k
unfolding key_crossing
crossing-key size f s k g sized h =
    let at = key-points size s k g sized h in ap₂ (edge_crossing f) at.lesser at.greater

pub points-are : (size : ℕ) (f : Form) (s : SheetData) (keys : List ℕ) → AreGiven s → All (λ n. length n ≡ size) s.names → All (IsEdgeKey (length s.names)) keys
    → map (key_name s.names) keys ≡ names_of (section_cells f s) → map (key_crossing f s.points) keys ≡ map (crossing_at f s) (names_of (section_cells f s))
points-are size f s keys g sized edges names =
    sym (ap (map (crossing_at f s)) (sym names) ∙ map-twice (crossing_at f s) (key_name s.names) keys
    ∙ map-same (λ k. crossing_at f s (key_name s.names k)) (key_crossing f s.points) keys (λ k d l. crossing-key size f s (get_or keys k d) g sized (edges k d l)))

-- ---- what is wide

narrow-key : (size : ℕ) (f : Form) (s : SheetData) (k : ℕ) → AreGiven s → All (λ n. length n ≡ size) s.names → IsEdgeKey (length s.names) k
    → IsNarrowName f s (key_name s.names k) ≡ IsNarrowKey f s.points k
narrow-key size f s k g sized h =
    let at = key-points size s k g sized h in ap₂ (IsNarrowEdge f) at.lesser at.greater

pub narrow-to_keys : (size : ℕ) (f : Form) (s : SheetData) (keys : List ℕ) → AreGiven s → All (λ n. length n ≡ size) s.names → All (IsEdgeKey (length s.names)) keys
    → map (key_name s.names) keys ≡ names_of (section_cells f s) → IsNarrowSection f s → All (IsNarrowKey f s.points) keys
narrow-to_keys size f s keys g sized edges names h =
    let by_name = all-unmap (IsNarrowName f s) (key_name s.names) keys (subst (All (IsNarrowName f s)) (sym names) h.crossings) in
    λ k d l. subst (λ (T : Type 0). T) (narrow-key size f s (get_or keys k d) g sized (edges k d l)) (by_name k d l)

pub narrow-from_keys : (size : ℕ) (f : Form) (s : SheetData) (keys : List ℕ) → AreGiven s → All (λ n. length n ≡ size) s.names → All (IsEdgeKey (length s.names)) keys
    → map (key_name s.names) keys ≡ names_of (section_cells f s) → All (IsNarrowValue f) s.points → All (IsNarrowKey f s.points) keys → IsNarrowSection f s
narrow-from_keys size f s keys g sized edges names values h = record {
  values = values;
  crossings =
      subst (All (IsNarrowName f s)) names
      (all-map (IsNarrowName f s) (key_name s.names) keys
      (λ k d l. subst (λ (T : Type 0). T) (sym (narrow-key size f s (get_or keys k d) g sized (edges k d l))) (h k d l)));
}
