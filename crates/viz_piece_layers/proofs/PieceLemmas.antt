-- The pieces of an image by layers.
use Rattle.std.proofs.Common.{refl, ◌≡◌, ℕ, ◌+◌, ◌-◌, ◌*◌, ◌<◌, ◌≤◌, List, [], ◌∷◌, length, get_or, map, replicate, sym, ap, subst, ◌∙◌, arith}
use Rattle.std.specs.List.{Contains, range_with_len}
use Rattle.std.proofs.lemmas.List.{length-map}
use Rattle.std.proofs.lemmas.Nat.{mul-le}
use Rattle.viz_extent.specs.Extent.{Bounds, plane_size}
use Rattle.viz_extent.specs.Slabs.{touched}
use Rattle.viz_kuhn.specs.Kuhn.{OnlyCorners, SharesDiagonal}
use Rattle.viz_kuhn.specs.Cubes.{cubes_x, cubes_y, cubes_z, tetrahedra_of}
use Rattle.viz_kuhn.proofs.CubeLemmas.{length-tetrahedra_of}
use Rattle.viz_meaning.proofs.ListLemmas.{contains-map, contains-unmap}
use Rattle.viz_piece_layers.specs.Cells.{Cell}
use Rattle.viz_extent.specs.Slabs.{share_begin}
use Rattle.viz_parts.specs.Pieces.{AreAll}
use Rattle.viz_piece_layers.specs.Layers.{AreLayered, AreLinked, Meeting, Touching, cells_from, distance, first_there, last_there, layer_size, layer_tets, shifted, tets_in}
use Rattle.viz_extent.specs.Slabs.{planes}
use Rattle.viz_piece_layers.specs.Pieces.{first_seen, last_seen, leaf_shift, named, own_tets, PiecesAreParts, PiecesAreRanges, PiecesGoBySteps, OwnsAreAll, EachOwnsSome}
use Rattle.viz_extent.specs.Slabs.{first_layer, next_layer}
use Rattle.viz_piece_layers.proofs.RangeLemmas.{map-flat, flat-range_same, map-const}
use Rattle.viz_piece_layers.proofs.LayerLemmas.{by_layers, layers_even, layers_range, meet_near, planes_have, touch_above, touch_below}
use Rattle.viz_piece_layers.proofs.OwnLemmas.{cut_within, cuts_differ, cuts_rise, ranges_are_all, whole_cut, zero_cut}
use Rattle.viz_piece_layers.proofs.PartLemmas.{layers_are_part, levels_are_steps, some_there, last_within}

-- tetrahedra that share a name share a leaf
pub are_layered : OnlyCorners → (b : Bounds) → AreLayered (λ z. named (layer_tets b z)) (cubes_z b)
are_layered only b y z s t ly lz cs ct m =
    let name : ℕ → List ℕ = λ leaf. leaf ∷ [] in
    let p = contains-unmap (map name) (layer_tets b y) s cs in
    let q = contains-unmap (map name) (layer_tets b z) t ct in
    let i = contains-unmap name p.0 m.0 (subst (λ ns. Contains ns m.0) (sym p.2) m.1) in
    let j = contains-unmap name q.0 m.0 (subst (λ ns. Contains ns m.0) (sym q.2) m.2) in
    let same : j.0 ≡ i.0 = ap (λ ns. get_or ns 0 0) (j.2 ∙ sym i.2) in
    meet_near only b y z p.0 q.0 i.0 ly lz p.1 q.1 i.1 (subst (Contains q.0) same j.1)

pub named-in : (b : Bounds) (low high : ℕ) → cells_from (λ z. named (layer_tets b z)) low high ≡ named (tets_in b low high)
named-in b low high = sym (map-flat (map (λ leaf. leaf ∷ [])) (layer_tets b) (range_with_len low (high - low)))

-- the planes that a piece sees
pub touched_planes : (b : Bounds) (low high ghosts : ℕ) → touched low high ghosts b ≡ planes (first_there low ghosts) (last_there (cubes_z b) high ghosts) b
touched_planes b low high ghosts = refl

pub owns_within : (p n : ℕ) (b : Bounds) → p < n → (first_layer p n b ≤ next_layer p n b) × (next_layer p n b ≤ cubes_z b)
owns_within p n b l =
    (cuts_rise n (cubes_z b) p (p + 1) (omega (arith, l)) (omega arith), cut_within n (cubes_z b) (p + 1) (omega (arith, l)) (omega (arith, l)))

pub pieces_are_parts : OnlyCorners → PiecesAreParts
pieces_are_parts only b p n ghosts is less =
    let within = owns_within p n b less in
    let low = first_layer p n b in
    let high = next_layer p n b in
    let count = cubes_z b in
    let from = first_seen p n ghosts b in
    let to = last_seen p n ghosts b in
    let there_is = planes_have b from to (some_there count low high ghosts within.0 within.1) (last_within count high ghosts) in
    let same = touched_planes b low high ghosts in
    let even : (z : ℕ) → length (named (layer_tets b z)) ≡ layer_size b = λ z. length-map (layer_tets b z) (map (λ leaf. leaf ∷ [])) ∙ layers_even b z in
    let part = layers_are_part (λ z. named (layer_tets b z)) count (layer_size b) low high ghosts within.0 within.1 (are_layered only b) even in
    let shift : from * plane_size b ≡ leaf_shift b (planes from to b) = ap (λ k. k * plane_size b) {x = from} {y = b.z0 + from - b.z0} (omega arith) in
    record {
      rule = part.rule;
      whole = part.whole ∙ named-in b 0 count ∙ ap named (sym (by_layers b));
      owned = part.owned;
      cells =
          part.cells_there ∙ named-in b from to
          ∙ ap named (sym there_is ∙ ap (λ by. shifted by (tetrahedra_of (planes from to b))) shift
          ∙ ap (λ e. shifted (leaf_shift b e) (tetrahedra_of e)) (sym same));
      levels =
          part.levels_there
          ∙ flat-range_same (λ z. map (λ c. distance low high z) (named (layer_tets b z))) (λ z. replicate (layer_size b) (distance low high z)) from (to - from)
          (λ z _ _. map-const (distance low high z) (named (layer_tets b z)) ∙ ap (λ k. replicate k (distance low high z)) (even z));
    }

-- what a piece sees, in the list of all
pub pieces_are_ranges : PiecesAreRanges
pieces_are_ranges b p n ghosts is less =
    let within = owns_within p n b less in
    let low = first_layer p n b in
    let high = next_layer p n b in
    let count = cubes_z b in
    let from = first_seen p n ghosts b in
    let to = last_seen p n ghosts b in
    let order = some_there count low high ghosts within.0 within.1 in
    let last = last_within count high ghosts in
    let same = touched_planes b low high ghosts in
    let shift : leaf_shift b (planes from to b) ≡ from * plane_size b = ap (λ k. k * plane_size b) {x = b.z0 + from - b.z0} {y = from} (omega arith) in
    ap (λ e. shifted (leaf_shift b e) (tetrahedra_of e)) same
    ∙ ap (λ by. shifted by (tetrahedra_of (planes from to b))) shift
    ∙ planes_have b from to order last
    ∙ layers_range b from to order last

-- tetrahedra of neighbouring layers meet
are_linked : SharesDiagonal → (b : Bounds) → AreLinked (λ z. named (layer_tets b z)) (cubes_z b)
are_linked ends b = record {
  above = λ z c l m. let t = contains-unmap (map name) (layer_tets b z) c m in meeting (z + 1) c t.0 t.2 (touch_above ends b z t.0 l t.1);
  below = λ z c l m. let t = contains-unmap (map name) (layer_tets b (z + 1)) c m in meeting z c t.0 t.2 (touch_below ends b z t.0 l t.1);
}
  where
    name : ℕ → List ℕ
    name leaf = leaf ∷ []

    meeting : (z : ℕ) (c : Cell) (t : List ℕ) → map name t ≡ c → Touching b z t → Meeting (λ z. named (layer_tets b z)) z c
    meeting z c t e m = record {
      cell = map name m.tet;
      there_is = contains-map (map name) (layer_tets b z) m.tet m.there_is;
      meet = (name m.leaf, subst (λ ns. Contains ns (name m.leaf)) e (contains-map name t m.leaf m.second), contains-map name m.tet m.leaf m.first);
    }

pub pieces_go_by_steps : SharesDiagonal → PiecesGoBySteps
pieces_go_by_steps ends b p n ghosts less some =
    levels_are_steps (λ z. named (layer_tets b z)) (cubes_z b) (first_layer p n b) (next_layer p n b) ghosts some (owns_within p n b less).1 (are_linked ends b)

pub owns_are_all : OwnsAreAll
owns_are_all b n some =
    let size = layer_size b in
    let cut : ℕ → ℕ = λ p. size * share_begin n (cubes_z b) p in
    let all : length (tetrahedra_of b) ≡ size * cubes_z b = length-tetrahedra_of b ∙ turned (cubes_x b) (cubes_y b) (cubes_z b) in
    subst (λ k. AreAll k (map (own_tets n b) (range_with_len 0 n))) (sym all)
    (ranges_are_all cut n (size * cubes_z b)
    (ap (λ k. size * k) (zero_cut n (cubes_z b) some) ∙ nothing size) (ap (λ k. size * k) (whole_cut n (cubes_z b) some))
    (λ p. mul-le size (cut' p) size (cut' (p + 1)) (omega arith) (cuts_rise n (cubes_z b) p (p + 1) some (omega arith))))
  where
    cut' : ℕ → ℕ
    cut' p = share_begin n (cubes_z b) p

    turned : (x y z : ℕ) → 6 * (x * y * z) ≡ 6 * (x * y) * z
    turned x y z = omega arith

    nothing : (k : ℕ) → k * 0 ≡ 0
    nothing k = omega arith

pub each_owns : EachOwnsSome
each_owns b p n some few = cuts_differ n (cubes_z b) p some few
