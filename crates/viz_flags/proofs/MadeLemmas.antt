-- What the passes give, one after the other.
use Rattle.std.proofs.Common.{◌≡◌, ℕ, zero, suc, ◌+◌, ◌*◌, ◌^◌, ◌<◌, ◌≤◌, Bool, true, false, List, [], ◌∷◌, length, map, refl, sym, ap, subst, ◌∙◌, arith}
use Rattle.std.specs.List.{All}
use Rattle.std.proofs.Math.Nat.{mul-le-mul_left}
use Rattle.std.proofs.lemmas.Simd.{map-map}
use Rattle.std.proofs.lemmas.List.FromFn.{length-range_with_len}
use Rattle.viz_extent.specs.Extent.{Bounds, size_x, size_y, size_z, plane_size, count_of, numbers_of}
use Rattle.viz_kuhn.specs.Cubes.{cubes_of, cubes_x, cubes_y, cubes_z}
use Rattle.viz_grid_section.specs.Edges.{Edge, edges_of, rank_of}
use Rattle.viz_grid_section.specs.GridSection.{grid_cells}
use Rattle.viz_grid_section.proofs.MembersLemmas.{get_or-map_of, length-map_of}
use Rattle.viz_sheet.specs.Kept.{kept, kept_rank, AreMarks}
use Rattle.viz_sheet.proofs.KeptLemmas.{rank-suc}
use Rattle.viz_flags.specs.Flags.{flags as bits_of, set_in}
use Rattle.viz_flags.specs.Edges.{cells_by, edge, leaves_from}
use Rattle.viz_flags.specs.Flagged.{flagged, all_edges}
use Rattle.viz_flags.proofs.ByteLemmas.{flags-length}
use Rattle.viz_flags.proofs.LayerLemmas.{row_in, plane_in}
use Rattle.viz_flags.proofs.FlaggedLemmas.{flagged_are_edges, flags_are_ranks, numbers_below, no_section, zero_mid, zero_right}

-- what holds of images holds of what they are images of
All-of_map : {X Y : Type 0} (P : Y → Type 0) (f : X → Y) (xs : List X) → All P (map f xs) → All (λ x. P (f x)) xs
All-of_map P f xs each = λ k d less.
    subst P (get_or-map_of f xs k d (f d) less) (each k (f d) (subst (λ n. k < n) (sym (length-map_of f xs)) less))

module _ {X : Type 0} (list : X → List ℕ) (b : Bounds) (inside : List Bool) (items given : List X) (n : ℕ) (full : n ≡ count_of b)
    (is : cells_by (size_x b) (plane_size b) (map list items) ≡ grid_cells b inside) (same : given ≡ items) where
  -- the numbers of edges are below eight times the count
  pub below_all : All (λ t. All (λ m. m < 8 * n) (list t)) given
  below_all =
      subst (λ (ts : List X). All (λ t. All (λ m. m < 8 * n) (list t)) ts) (sym same)
      (subst (λ c. All (λ t. All (λ m. m < 8 * c) (list t)) items) (sym full)
      (All-of_map (All (λ m. m < 8 * count_of b)) list items (numbers_below b inside (map list items) is)))

  module _ (masks : List ℕ) (marks : AreMarks (8 * n) (map list given) (bits_of masks)) where
    marks_of : AreMarks (8 * count_of b) (map list items) (bits_of masks)
    marks_of = subst (λ m. AreMarks (8 * m) (map list items) (bits_of masks)) full (subst (λ (ts : List X). AreMarks (8 * n) (map list ts) (bits_of masks)) same marks)

    pub made_names : (first : ℕ) (numbers masks2 : List ℕ) (names : List (List ℕ)) → numbers ≡ numbers_of b → masks2 ≡ masks
        → names ≡ map (leaves_from first) (flagged (row_in numbers) (plane_in numbers) (bits_of masks2)) → names ≡ map (leaves_from first) (edges_of (grid_cells b inside))
    made_names first numbers masks2 names by same_masks made =
        made ∙ ap (λ ms. map (leaves_from first) (flagged (row_in numbers) (plane_in numbers) (bits_of ms))) same_masks
        ∙ ap (λ ns. map (leaves_from first) (flagged (row_in ns) (plane_in ns) (bits_of masks))) by
        ∙ ap (map (leaves_from first)) (flagged_are_edges b inside (bits_of masks) (map list items) is marks_of)

    pub made_ranks : (masks2 : List ℕ) (new : List (List ℕ)) → masks2 ≡ masks
        → new ≡ map (λ t. map (kept_rank (bits_of masks2)) (list t)) items
        → new ≡ map (λ cell. map (rank_of (edges_of (grid_cells b inside))) cell) (grid_cells b inside)
    made_ranks masks2 new same_masks made =
        made ∙ ap (λ (ms : List ℕ). map (λ t. map (kept_rank (bits_of ms)) (list t)) items) same_masks
        ∙ sym (map-map (λ cell. map (kept_rank (bits_of masks)) cell) list items)
        ∙ flags_are_ranks b inside (bits_of masks) (map list items) is marks_of

-- ---- there are as many names as set flags

length-kept : {X : Type 0} (bits : List Bool) (xs : List X) → length bits ≡ length xs → length (kept bits xs) ≡ kept_rank bits (length bits)
length-kept [] xs same = refl
length-kept (b ∷ bs) [] same = absurd (omega arith)
length-kept (true ∷ bs) (x ∷ xs) same = omega (arith, rank-suc true bs (length bs), length-kept bs xs (omega arith))
length-kept (false ∷ bs) (x ∷ xs) same = omega (arith, rank-suc false bs (length bs), length-kept bs xs (omega arith))

pub length-named : (first row plane : ℕ) (masks : List ℕ) (names : List (List ℕ)) → names ≡ map (leaves_from first) (flagged row plane (bits_of masks))
    → length names ≡ set_in masks
unfolding flagged
length-named first row plane masks names is =
    let bits = bits_of masks in
    let all = all_edges row plane (length bits) in
    let long : length bits ≡ length all = sym (length-map_of (edge row plane) _ ∙ length-range_with_len 0 (length bits)) in
    ap length is ∙ length-map_of (leaves_from first) (kept bits all) ∙ length-kept bits all long ∙ ap (kept_rank bits) (flags-length masks)

-- ---- upper leaves fit 32 bits

fit : (first m plane row n : ℕ) → first + n < 2 ^ 31 → m ≡ n → 2 * plane ≤ n → 2 * row ≤ plane → first + m + plane + row + 2 < 2 ^ 32
fit first m plane row n within same planes rows = omega arith

above_zero : (m : ℕ) → (m ≡ 0 → ⊥) → 0 < m
above_zero zero not = absurd (not refl)
above_zero (suc m) not = omega arith

-- no cell is made of no item
pub none_made : {X : Type 0} (list : X → List ℕ) (items : List X) (row plane : ℕ) (cells : List (List Edge)) → cells_by row plane (map list items) ≡ cells → cells ≡ []
    → length items ≡ 0
none_made list items row plane cells is none =
    sym (length-map_of list items) ∙ sym (length-map_of (λ cell. map (edge row plane) cell) (map list items)) ∙ ap length (is ∙ none)

pub names_fit : (numbers : List ℕ) (b : Bounds) (inside : List Bool) (first m n : ℕ) → numbers ≡ numbers_of b → (grid_cells b inside ≡ [] → ⊥) → first + n < 2 ^ 31 → m ≡ n → n ≡ count_of b
    → first + m + plane_in numbers + row_in numbers + 2 < 2 ^ 32
names_fit numbers b inside first m n by some within same full =
    let has : cubes_of b ≡ 0 → ⊥ = λ none. some (no_section b inside none) in
    let y : 0 < cubes_y b = above_zero (cubes_y b) (λ e. has (zero_mid (cubes_x b) (cubes_y b) (cubes_z b) e)) in
    let z : 0 < cubes_z b = above_zero (cubes_z b) (λ e. has (zero_right (cubes_x b) (cubes_y b) (cubes_z b) e)) in
    let rows : size_x b * 2 ≤ size_x b * size_y b = mul-le-mul_left (size_x b) (omega (arith, y)) in
    let planes : plane_size b * 2 ≤ plane_size b * size_z b = mul-le-mul_left (plane_size b) (omega (arith, z)) in
    subst (λ (ns : List ℕ). first + m + plane_in ns + row_in ns + 2 < 2 ^ 32) (sym by)
    (fit first m (plane_size b) (size_x b) n within same (omega (arith, planes, full)) (omega (arith, rows)))
