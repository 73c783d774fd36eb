use Rattle.std.proofs.Common.{◌≡◌, ℕ, ◌+◌, ◌^◌, ◌<◌, ◌≤◌, ℤ, pos, Bool, List, ◌++◌, length, map, sym, ap, ap₂, subst, ◌∙◌, rules, arith}
use Rattle.std.specs.Prelude.{int_le}
use Rattle.std.specs.List.{All, flat_map, range_with_len}
use Rattle.viz_fraction.specs.Points.{IsNarrow, Point}
use Rattle.viz_fraction.specs.Forms.{IsNarrowValue, value_of}
use Rattle.viz_sheet.specs.Arrays.{names_in, points_in, ranks_in}
use Rattle.viz_sheet.specs.Kept.{kept_rank}
use Rattle.viz_cells.specs.Steps.Keys.{IsEdgeKey}
use Rattle.viz_cells.specs.Steps.Numbered.{AreKeysOf}
use Rattle.viz_cells.proofs.EdgeLemmas.{flags_of}
use Rattle.viz_clip.specs.Steps.Cuts.{IsCutAt, IsNarrowCut, kept_points}
use Rattle.viz_clip.specs.Steps.Keys.{IsTet, cell_keys}
use Rattle.viz_clip.specs.Steps.Numbers.{CanNumber, numbered_in, ranks_inside}
use Rattle.viz_clip.specs.Steps.Vertices.{IsKept, cut_leaves, leaf_at, tets_at, vertices_in}
use Rattle.viz_clip.proofs.MadeLemmas.{Base, are-tets_by, can-number, corners-below, cuts, edges, few-corners, flags-are, kept, narrow-points, narrow-values, points-below, result-is, values_in}
use Rattle.viz_clip.proofs.PointLemmas.{cells-narrow, cuts-narrow, keys-cut, values-narrow}
use Rattle.viz_clip.proofs.VertexLemmas.{corner_count}
use Rattle.viz_clip.proofs.clipping.clipped.Goals as goal

pub keys_in_order-requires : goal.keys_in_order-requires
keys_in_order-requires c =
    let f = c.args.form.now in
    let s = c.args.sheet.now in
    let cells = ranks_in c.ranks-cells.result.now in
    let flags = flags_of f s.points in
    let b : Base s cells = record { valid = c.ranks-cells.ensures.valid; named = c.ranks-cells.ensures.value; sized = c.requires.level; tetrahedra = c.requires.tetrahedra } in
    let V : c.in_ok-values.values.items ≡ values_in f s = c.in_ok-values.ensures.value ∙ ap (map (value_of f)) c.places.ensures.value in
    let F : c.in_ok-inside.inside.items ≡ flags = c.in_ok-inside.ensures ∙ ap (map (int_le (pos 0))) (c.deref.ensures.value ∙ V) ∙ flags-are f s in
    record { cells = subst (λ (l : List Bool). All (IsTet (length l)) cells) (sym (c.deref-2.ensures.value ∙ F)) (are-tets_by f s cells b) }

pub kept_points-requires : goal.kept_points-requires
kept_points-requires c =
    let f = c.args.form.now in
    let s = c.args.sheet.now in
    let cells = ranks_in c.ranks-cells.result.now in
    let flags = flags_of f s.points in
    let b : Base s cells = record { valid = c.ranks-cells.ensures.valid; named = c.ranks-cells.ensures.value; sized = c.requires.level; tetrahedra = c.requires.tetrahedra } in
    let V : c.in_ok-values.values.items ≡ values_in f s = c.in_ok-values.ensures.value ∙ ap (map (value_of f)) c.places.ensures.value in
    let F : c.in_ok-inside.inside.items ≡ flags = c.in_ok-inside.ensures ∙ ap (map (int_le (pos 0))) (c.deref.ensures.value ∙ V) ∙ flags-are f s in
    let keys = c.in_ok-keys.keys.items in
    let of : AreKeysOf (cell_keys flags cells) keys = subst (λ (l : List Bool). AreKeysOf (cell_keys l cells) keys) (c.deref-2.ensures.value ∙ F) c.in_ok-keys.ensures.value in
    let R : c.in_ok-ranks.ranks.items ≡ ranks_inside flags = c.in_ok-ranks.ensures ∙ ap ranks_inside (c.deref-3.ensures.value ∙ F) in
    let seen : c.deref-4.result.now ≡ ranks_inside flags = c.deref-4.ensures.value ∙ R in
    let seen_values : c.deref-5.result.now ≡ values_in f s = c.deref-5.ensures.value ∙ V in
    let seen_keys : c.deref-6.result.now ≡ keys = c.deref-6.ensures.value in
    let P : points_in c.places-2.result.now ≡ s.points = c.places-2.ensures.value in
    record {
      below =
          subst (λ (l : List ℕ). All (λ r. r < length (points_in c.places-2.result.now)) l) (sym seen)
          (subst (λ (p : List Point). All (λ r. r < length p) (ranks_inside flags)) (sym P) (points-below f s cells keys b of));
      narrow =
          subst (λ (l : List ℤ). All IsNarrow l) (sym seen_values)
          (narrow-values f s (subst (λ (p : List Point). All (IsNarrowValue f) p) c.places.ensures.value c.in_ok-values.ensures.ok));
      cut =
          subst (λ (l : List ℤ). All (IsCutAt l (points_in c.places-2.result.now)) c.deref-6.result.now) (sym seen_values)
          (subst (λ (p : List Point). All (IsCutAt (values_in f s) p) c.deref-6.result.now) (sym P)
          (subst (λ (l : List ℕ). All (IsCutAt (values_in f s) s.points) l) (sym seen_keys) (keys-cut f s cells keys (cuts f s cells keys b of))));
    }

pub corner_leaves-requires : goal.corner_leaves-requires
corner_leaves-requires c =
    let f = c.args.form.now in
    let s = c.args.sheet.now in
    let cells = ranks_in c.ranks-cells.result.now in
    let flags = flags_of f s.points in
    let b : Base s cells = record { valid = c.ranks-cells.ensures.valid; named = c.ranks-cells.ensures.value; sized = c.requires.level; tetrahedra = c.requires.tetrahedra } in
    let V : c.in_ok-values.values.items ≡ values_in f s = c.in_ok-values.ensures.value ∙ ap (map (value_of f)) c.places.ensures.value in
    let F : c.in_ok-inside.inside.items ≡ flags = c.in_ok-inside.ensures ∙ ap (map (int_le (pos 0))) (c.deref.ensures.value ∙ V) ∙ flags-are f s in
    let keys = c.in_ok-keys.keys.items in
    let of : AreKeysOf (cell_keys flags cells) keys = subst (λ (l : List Bool). AreKeysOf (cell_keys l cells) keys) (c.deref-2.ensures.value ∙ F) c.in_ok-keys.ensures.value in
    let R : c.in_ok-ranks.ranks.items ≡ ranks_inside flags = c.in_ok-ranks.ensures ∙ ap ranks_inside (c.deref-3.ensures.value ∙ F) in
    record {
      below =
          subst (λ (l : List ℕ). All (λ r. r < length (names_in c.leaves.result.now)) l) (sym (c.deref-7.ensures.value ∙ R))
          (subst (λ (l : List (List ℕ)). All (λ r. r < length l) (ranks_inside flags)) (sym c.leaves.ensures.value) (corners-below f s cells keys b of));
      level = subst (λ (l : List (List ℕ)). All (λ (m : List ℕ). length m ≡ 1) l) (sym c.leaves.ensures.value) c.requires.level;
    }

pub cut_leaves-requires : goal.cut_leaves-requires
cut_leaves-requires c =
    let f = c.args.form.now in
    let s = c.args.sheet.now in
    let cells = ranks_in c.ranks-cells.result.now in
    let flags = flags_of f s.points in
    let b : Base s cells = record { valid = c.ranks-cells.ensures.valid; named = c.ranks-cells.ensures.value; sized = c.requires.level; tetrahedra = c.requires.tetrahedra } in
    let V : c.in_ok-values.values.items ≡ values_in f s = c.in_ok-values.ensures.value ∙ ap (map (value_of f)) c.places.ensures.value in
    let F : c.in_ok-inside.inside.items ≡ flags = c.in_ok-inside.ensures ∙ ap (map (int_le (pos 0))) (c.deref.ensures.value ∙ V) ∙ flags-are f s in
    let keys = c.in_ok-keys.keys.items in
    let of : AreKeysOf (cell_keys flags cells) keys = subst (λ (l : List Bool). AreKeysOf (cell_keys l cells) keys) (c.deref-2.ensures.value ∙ F) c.in_ok-keys.ensures.value in
    record {
      keys =
          subst (λ (l : List ℕ). All (IsEdgeKey (length (names_in c.leaves-2.result.now))) l) (sym c.deref-8.ensures.value)
          (subst (λ (l : List (List ℕ)). All (IsEdgeKey (length l)) keys) (sym c.leaves-2.ensures.value) (edges f s cells keys b of));
      level = subst (λ (l : List (List ℕ)). All (λ (m : List ℕ). length m ≡ 1) l) (sym c.leaves-2.ensures.value) c.requires.level;
    }

pub tets-requires : goal.tets-requires
tets-requires c =
    let f = c.args.form.now in
    let s = c.args.sheet.now in
    let cells = ranks_in c.ranks-cells.result.now in
    let flags = flags_of f s.points in
    let b : Base s cells = record { valid = c.ranks-cells.ensures.valid; named = c.ranks-cells.ensures.value; sized = c.requires.level; tetrahedra = c.requires.tetrahedra } in
    let V : c.in_ok-values.values.items ≡ values_in f s = c.in_ok-values.ensures.value ∙ ap (map (value_of f)) c.places.ensures.value in
    let F : c.in_ok-inside.inside.items ≡ flags = c.in_ok-inside.ensures ∙ ap (map (int_le (pos 0))) (c.deref.ensures.value ∙ V) ∙ flags-are f s in
    let keys = c.in_ok-keys.keys.items in
    let of : AreKeysOf (cell_keys flags cells) keys = subst (λ (l : List Bool). AreKeysOf (cell_keys l cells) keys) (c.deref-2.ensures.value ∙ F) c.in_ok-keys.ensures.value in
    let R : c.in_ok-ranks.ranks.items ≡ ranks_inside flags = c.in_ok-ranks.ensures ∙ ap ranks_inside (c.deref-3.ensures.value ∙ F) in
    let seen : c.deref-4.result.now ≡ ranks_inside flags = c.deref-4.ensures.value ∙ R in
    let seen_values : c.deref-5.result.now ≡ values_in f s = c.deref-5.ensures.value ∙ V in
    let seen_keys : c.deref-6.result.now ≡ keys = c.deref-6.ensures.value in
    let P : points_in c.places-2.result.now ≡ s.points = c.places-2.ensures.value in
    let few : corner_count flags + length keys < 2 ^ 32 = omega (arith, few-corners f s, c.if-len.false, c.len.ensures, c.len-2.ensures, c.in_ok-inside.inside.ok.0, c.in_ok-keys.keys.ok.0, ap length F) in
    let n = c.in_ok-numbers.numbers in
    let numbers : n.corners.items ≡ map (kept_rank flags) (range_with_len 0 (length flags)) =
    c.in_ok-numbers.ensures.corners ∙ ap (λ (l : List Bool). map (kept_rank l) (range_with_len 0 (length l))) (c.deref-9.ensures.value ∙ F) in
    let count : n.count ≡ corner_count flags = omega (arith, c.in_ok-numbers.ensures.count, c.len-count.ensures, c.in_ok-ranks.ranks.ok.0, ap length R) in
    let keyed : n.keys.items ≡ keys = c.in_ok-numbers.ensures.keys in
    record {
      cells = subst (λ (l : List Bool). All (IsTet (length l)) cells) (sym (c.deref-10.ensures.value ∙ F)) (are-tets_by f s cells b);
      numbers = subst (λ (l : List Bool). CanNumber l cells n) (sym (c.deref-10.ensures.value ∙ F)) (can-number f s cells keys b of n numbers count keyed few);
    }

pub new-requires-2 : goal.new-requires-2
new-requires-2 c =
    let f = c.args.form.now in
    let s = c.args.sheet.now in
    let cells = ranks_in c.ranks-cells.result.now in
    let flags = flags_of f s.points in
    let b : Base s cells = record { valid = c.ranks-cells.ensures.valid; named = c.ranks-cells.ensures.value; sized = c.requires.level; tetrahedra = c.requires.tetrahedra } in
    let V : c.in_ok-values.values.items ≡ values_in f s = c.in_ok-values.ensures.value ∙ ap (map (value_of f)) c.places.ensures.value in
    let F : c.in_ok-inside.inside.items ≡ flags = c.in_ok-inside.ensures ∙ ap (map (int_le (pos 0))) (c.deref.ensures.value ∙ V) ∙ flags-are f s in
    let keys = c.in_ok-keys.keys.items in
    let of : AreKeysOf (cell_keys flags cells) keys = subst (λ (l : List Bool). AreKeysOf (cell_keys l cells) keys) (c.deref-2.ensures.value ∙ F) c.in_ok-keys.ensures.value in
    let R : c.in_ok-ranks.ranks.items ≡ ranks_inside flags = c.in_ok-ranks.ensures ∙ ap ranks_inside (c.deref-3.ensures.value ∙ F) in
    let seen : c.deref-4.result.now ≡ ranks_inside flags = c.deref-4.ensures.value ∙ R in
    let seen_values : c.deref-5.result.now ≡ values_in f s = c.deref-5.ensures.value ∙ V in
    let seen_keys : c.deref-6.result.now ≡ keys = c.deref-6.ensures.value in
    let P : points_in c.places-2.result.now ≡ s.points = c.places-2.ensures.value in
    let few : corner_count flags + length keys < 2 ^ 32 = omega (arith, few-corners f s, c.if-len.false, c.len.ensures, c.len-2.ensures, c.in_ok-inside.inside.ok.0, c.in_ok-keys.keys.ok.0, ap length F) in
    let n = c.in_ok-numbers.numbers in
    let numbers : n.corners.items ≡ map (kept_rank flags) (range_with_len 0 (length flags)) =
    c.in_ok-numbers.ensures.corners ∙ ap (λ (l : List Bool). map (kept_rank l) (range_with_len 0 (length l))) (c.deref-9.ensures.value ∙ F) in
    let count : n.count ≡ corner_count flags = omega (arith, c.in_ok-numbers.ensures.count, c.len-count.ensures, c.in_ok-ranks.ranks.ok.0, ap length R) in
    let keyed : n.keys.items ≡ keys = c.in_ok-numbers.ensures.keys in
    let is_corners : c.in_ok-corners.corners.items ≡ map (leaf_at s.names) (ranks_inside flags) =
    c.in_ok-corners.ensures ∙ ap (λ (l : List (List ℕ)). map (leaf_at l) c.deref-7.result.now) c.leaves.ensures.value ∙ ap (map (leaf_at s.names)) (c.deref-7.ensures.value ∙ R) in
    let is_cuts : c.in_ok-cuts.cuts.items ≡ map (cut_leaves s.names) keys =
    c.in_ok-cuts.ensures ∙ ap (λ (l : List (List ℕ)). map (cut_leaves l) c.deref-8.result.now) c.leaves-2.ensures.value ∙ ap (map (cut_leaves s.names)) c.deref-8.ensures.value in
    let is_points : points_in c.in_ok-places.places ≡ kept_points (ranks_inside flags) (values_in f s) keys s.points =
    c.in_ok-places.ensures.value
    ∙ ap (λ (l : List ℕ). kept_points l c.deref-5.result.now c.deref-6.result.now (points_in c.places-2.result.now)) seen
    ∙ ap (λ (l : List ℤ). kept_points (ranks_inside flags) l c.deref-6.result.now (points_in c.places-2.result.now)) seen_values
    ∙ ap (λ (l : List ℕ). kept_points (ranks_inside flags) (values_in f s) l (points_in c.places-2.result.now)) seen_keys
    ∙ ap (kept_points (ranks_inside flags) (values_in f s) keys) P in
    let is_tets : c.in_ok-tets.tets.items ≡ flat_map (numbered_in flags n) cells =
    c.in_ok-tets.ensures.value ∙ ap (λ (l : List Bool). flat_map (numbered_in l n) cells) (c.deref-10.ensures.value ∙ F) in
    record {
      kept =
          subst (λ (l : List ℕ). IsKept l c.in_ok-cuts.cuts.items (points_in c.in_ok-places.places) c.in_ok-tets.tets.items) (sym is_corners)
          (subst (λ (l : List (List ℕ)). IsKept (map (leaf_at s.names) (ranks_inside flags)) l (points_in c.in_ok-places.places) c.in_ok-tets.tets.items) (sym is_cuts)
          (subst (λ (p : List Point). IsKept (map (leaf_at s.names) (ranks_inside flags)) (map (cut_leaves s.names) keys) p c.in_ok-tets.tets.items) (sym is_points)
          (subst (λ (l : List (List ℕ)). IsKept (map (leaf_at s.names) (ranks_inside flags)) (map (cut_leaves s.names) keys) (kept_points (ranks_inside flags) (values_in f s) keys s.points) l) (sym is_tets)
          (kept f s cells keys b of n numbers count keyed few))));
    }

pub returns-clause-value : goal.returns-clause-value
returns-clause-value c =
    let f = c.args.form.now in
    let s = c.args.sheet.now in
    let cells = ranks_in c.ranks-cells.result.now in
    let flags = flags_of f s.points in
    let b : Base s cells = record { valid = c.ranks-cells.ensures.valid; named = c.ranks-cells.ensures.value; sized = c.requires.level; tetrahedra = c.requires.tetrahedra } in
    let V : c.in_ok-values.values.items ≡ values_in f s = c.in_ok-values.ensures.value ∙ ap (map (value_of f)) c.places.ensures.value in
    let F : c.in_ok-inside.inside.items ≡ flags = c.in_ok-inside.ensures ∙ ap (map (int_le (pos 0))) (c.deref.ensures.value ∙ V) ∙ flags-are f s in
    let keys = c.in_ok-keys.keys.items in
    let of : AreKeysOf (cell_keys flags cells) keys = subst (λ (l : List Bool). AreKeysOf (cell_keys l cells) keys) (c.deref-2.ensures.value ∙ F) c.in_ok-keys.ensures.value in
    let R : c.in_ok-ranks.ranks.items ≡ ranks_inside flags = c.in_ok-ranks.ensures ∙ ap ranks_inside (c.deref-3.ensures.value ∙ F) in
    let seen : c.deref-4.result.now ≡ ranks_inside flags = c.deref-4.ensures.value ∙ R in
    let seen_values : c.deref-5.result.now ≡ values_in f s = c.deref-5.ensures.value ∙ V in
    let seen_keys : c.deref-6.result.now ≡ keys = c.deref-6.ensures.value in
    let P : points_in c.places-2.result.now ≡ s.points = c.places-2.ensures.value in
    let few : corner_count flags + length keys < 2 ^ 32 = omega (arith, few-corners f s, c.if-len.false, c.len.ensures, c.len-2.ensures, c.in_ok-inside.inside.ok.0, c.in_ok-keys.keys.ok.0, ap length F) in
    let n = c.in_ok-numbers.numbers in
    let numbers : n.corners.items ≡ map (kept_rank flags) (range_with_len 0 (length flags)) =
    c.in_ok-numbers.ensures.corners ∙ ap (λ (l : List Bool). map (kept_rank l) (range_with_len 0 (length l))) (c.deref-9.ensures.value ∙ F) in
    let count : n.count ≡ corner_count flags = omega (arith, c.in_ok-numbers.ensures.count, c.len-count.ensures, c.in_ok-ranks.ranks.ok.0, ap length R) in
    let keyed : n.keys.items ≡ keys = c.in_ok-numbers.ensures.keys in
    let is_corners : c.in_ok-corners.corners.items ≡ map (leaf_at s.names) (ranks_inside flags) =
    c.in_ok-corners.ensures ∙ ap (λ (l : List (List ℕ)). map (leaf_at l) c.deref-7.result.now) c.leaves.ensures.value ∙ ap (map (leaf_at s.names)) (c.deref-7.ensures.value ∙ R) in
    let is_cuts : c.in_ok-cuts.cuts.items ≡ map (cut_leaves s.names) keys =
    c.in_ok-cuts.ensures ∙ ap (λ (l : List (List ℕ)). map (cut_leaves l) c.deref-8.result.now) c.leaves-2.ensures.value ∙ ap (map (cut_leaves s.names)) c.deref-8.ensures.value in
    let is_points : points_in c.in_ok-places.places ≡ kept_points (ranks_inside flags) (values_in f s) keys s.points =
    c.in_ok-places.ensures.value
    ∙ ap (λ (l : List ℕ). kept_points l c.deref-5.result.now c.deref-6.result.now (points_in c.places-2.result.now)) seen
    ∙ ap (λ (l : List ℤ). kept_points (ranks_inside flags) l c.deref-6.result.now (points_in c.places-2.result.now)) seen_values
    ∙ ap (λ (l : List ℕ). kept_points (ranks_inside flags) (values_in f s) l (points_in c.places-2.result.now)) seen_keys
    ∙ ap (kept_points (ranks_inside flags) (values_in f s) keys) P in
    let is_tets : c.in_ok-tets.tets.items ≡ flat_map (numbered_in flags n) cells =
    c.in_ok-tets.ensures.value ∙ ap (λ (l : List Bool). flat_map (numbered_in l n) cells) (c.deref-10.ensures.value ∙ F) in
    let is_vertices = ap₂ vertices_in is_corners is_cuts in
    result-is f s cells keys b of n numbers count keyed c.new-2.result
    (c.new-2.ensures.vertices ∙ is_vertices) (c.new-2.ensures.points ∙ is_points) (c.new-2.ensures.tets ∙ ap₂ tets_at is_vertices is_tets)

pub returns-clause-narrow : goal.returns-clause-narrow
returns-clause-narrow c =
    let f = c.args.form.now in
    let s = c.args.sheet.now in
    let cells = ranks_in c.ranks-cells.result.now in
    let flags = flags_of f s.points in
    let b : Base s cells = record { valid = c.ranks-cells.ensures.valid; named = c.ranks-cells.ensures.value; sized = c.requires.level; tetrahedra = c.requires.tetrahedra } in
    let V : c.in_ok-values.values.items ≡ values_in f s = c.in_ok-values.ensures.value ∙ ap (map (value_of f)) c.places.ensures.value in
    let F : c.in_ok-inside.inside.items ≡ flags = c.in_ok-inside.ensures ∙ ap (map (int_le (pos 0))) (c.deref.ensures.value ∙ V) ∙ flags-are f s in
    let keys = c.in_ok-keys.keys.items in
    let of : AreKeysOf (cell_keys flags cells) keys = subst (λ (l : List Bool). AreKeysOf (cell_keys l cells) keys) (c.deref-2.ensures.value ∙ F) c.in_ok-keys.ensures.value in
    let R : c.in_ok-ranks.ranks.items ≡ ranks_inside flags = c.in_ok-ranks.ensures ∙ ap ranks_inside (c.deref-3.ensures.value ∙ F) in
    let seen : c.deref-4.result.now ≡ ranks_inside flags = c.deref-4.ensures.value ∙ R in
    let seen_values : c.deref-5.result.now ≡ values_in f s = c.deref-5.ensures.value ∙ V in
    let seen_keys : c.deref-6.result.now ≡ keys = c.deref-6.ensures.value in
    let P : points_in c.places-2.result.now ≡ s.points = c.places-2.ensures.value in
    let narrow =
    subst (λ (l : List ℕ). All (IsNarrowCut (values_in f s) s.points) l) seen_keys
    (subst (λ (p : List Point). All (IsNarrowCut (values_in f s) p) c.deref-6.result.now) P
    (subst (λ (l : List ℤ). All (IsNarrowCut l (points_in c.places-2.result.now)) c.deref-6.result.now) seen_values c.in_ok-places.ensures.ok)) in
    cells-narrow f s cells keys (cuts f s cells keys b of) (subst (λ (p : List Point). All (IsNarrowValue f) p) c.places.ensures.value c.in_ok-values.ensures.ok) narrow

pub returns-in_err-places-clause-too_wide : goal.returns-in_err-places-clause-too_wide
returns-in_err-places-clause-too_wide c wide narrow =
    let f = c.args.form.now in
    let s = c.args.sheet.now in
    let cells = ranks_in c.ranks-cells.result.now in
    let flags = flags_of f s.points in
    let b : Base s cells = record { valid = c.ranks-cells.ensures.valid; named = c.ranks-cells.ensures.value; sized = c.requires.level; tetrahedra = c.requires.tetrahedra } in
    let V : c.in_ok-values.values.items ≡ values_in f s = c.in_ok-values.ensures.value ∙ ap (map (value_of f)) c.places.ensures.value in
    let F : c.in_ok-inside.inside.items ≡ flags = c.in_ok-inside.ensures ∙ ap (map (int_le (pos 0))) (c.deref.ensures.value ∙ V) ∙ flags-are f s in
    let keys = c.in_ok-keys.keys.items in
    let of : AreKeysOf (cell_keys flags cells) keys = subst (λ (l : List Bool). AreKeysOf (cell_keys l cells) keys) (c.deref-2.ensures.value ∙ F) c.in_ok-keys.ensures.value in
    let R : c.in_ok-ranks.ranks.items ≡ ranks_inside flags = c.in_ok-ranks.ensures ∙ ap ranks_inside (c.deref-3.ensures.value ∙ F) in
    let seen : c.deref-4.result.now ≡ ranks_inside flags = c.deref-4.ensures.value ∙ R in
    let seen_values : c.deref-5.result.now ≡ values_in f s = c.deref-5.ensures.value ∙ V in
    let seen_keys : c.deref-6.result.now ≡ keys = c.deref-6.ensures.value in
    let P : points_in c.places-2.result.now ≡ s.points = c.places-2.ensures.value in
    c.in_err-places.ensures.too_wide (search rules)
    (subst (λ (l : List ℤ). All (IsNarrowCut l (points_in c.places-2.result.now)) c.deref-6.result.now) (sym seen_values)
    (subst (λ (p : List Point). All (IsNarrowCut (values_in f s) p) c.deref-6.result.now) (sym P)
    (subst (λ (l : List ℕ). All (IsNarrowCut (values_in f s) s.points) l) (sym seen_keys) (cuts-narrow f s cells keys (cuts f s cells keys b of) narrow))))

pub returns-in_err-values-clause-too_wide : goal.returns-in_err-values-clause-too_wide
returns-in_err-values-clause-too_wide c wide narrow =
    let f = c.args.form.now in
    let s = c.args.sheet.now in
    let cells = ranks_in c.ranks-cells.result.now in
    let flags = flags_of f s.points in
    let b : Base s cells = record { valid = c.ranks-cells.ensures.valid; named = c.ranks-cells.ensures.value; sized = c.requires.level; tetrahedra = c.requires.tetrahedra } in
    c.in_err-values.ensures.too_wide (search rules) (subst (λ (p : List Point). All (IsNarrowValue f) p) (sym c.places.ensures.value) (narrow-points f s cells b narrow))

pub overflow_cast-count : goal.overflow_cast-count
overflow_cast-count c =
    let f = c.args.form.now in
    let s = c.args.sheet.now in
    let cells = ranks_in c.ranks-cells.result.now in
    let flags = flags_of f s.points in
    let b : Base s cells = record { valid = c.ranks-cells.ensures.valid; named = c.ranks-cells.ensures.value; sized = c.requires.level; tetrahedra = c.requires.tetrahedra } in
    let V : c.in_ok-values.values.items ≡ values_in f s = c.in_ok-values.ensures.value ∙ ap (map (value_of f)) c.places.ensures.value in
    let F : c.in_ok-inside.inside.items ≡ flags = c.in_ok-inside.ensures ∙ ap (map (int_le (pos 0))) (c.deref.ensures.value ∙ V) ∙ flags-are f s in
    let keys = c.in_ok-keys.keys.items in
    let of : AreKeysOf (cell_keys flags cells) keys = subst (λ (l : List Bool). AreKeysOf (cell_keys l cells) keys) (c.deref-2.ensures.value ∙ F) c.in_ok-keys.ensures.value in
    let R : c.in_ok-ranks.ranks.items ≡ ranks_inside flags = c.in_ok-ranks.ensures ∙ ap ranks_inside (c.deref-3.ensures.value ∙ F) in
    omega (arith, few-corners f s, c.if-len.false, c.len.ensures, c.len-2.ensures, c.in_ok-inside.inside.ok.0, c.in_ok-keys.keys.ok.0, c.len-count.ensures, c.in_ok-ranks.ranks.ok.0, ap length F, ap length R)
