-- No number of the section of an image's tetrahedra is wide just where no crossing on its edges is.
use Rattle.std.proofs.Common.{◌≡◌, ℕ, ◌+◌, ◌<◌, Bool, true, false, ℤ, List, [], ◌∷◌, map, length, get_or, sym, subst, arith}
use Rattle.std.specs.Prelude.{FitsSigned}
use Rattle.std.specs.Int.{w64}
use Rattle.std.specs.List.{All, range_with_len}
use Rattle.std.proofs.lemmas.List.Elements.{All-nil, All-cons, All-head, All-tail, All-map}
use Rattle.std.proofs.lemmas.List.FromFn.{length-range_with_len, get_or-range_with_len}
use Rattle.viz_extent.specs.Extent.{count_of}
use Rattle.viz_fraction.specs.declared.forms.Form.{Form}
use Rattle.viz_fraction.specs.Points.{Point}
use Rattle.viz_fraction.specs.Forms.{contour_form, IsNarrowValue}
use Rattle.viz_kuhn.specs.Cubes.{tetrahedra_of}
use Rattle.viz_dataset.specs.Images.{ImageData, IsImage}
use Rattle.viz_sheet.specs.Kept.{kept, used_marks}
use Rattle.viz_sheet.specs.Ranked.{leaf_names}
use Rattle.viz_meaning.specs.Narrow.{IsNarrowEdge, IsNarrowName, IsNarrowSection}
use Rattle.viz_meaning.specs.Section.{point_of}
use Rattle.viz_meaning.specs.Tetrahedra.{point_of_leaf, leaf_points, tetrahedra_sheet}
use Rattle.viz_grid_section.specs.Edges.{Edge, edge_leaves}
use Rattle.viz_grid_section.specs.ImageSection.{AreNarrow, contour_edges}
use Rattle.viz_grid_section.proofs.LeafLemmas.{narrow_leaf}
use Rattle.viz_grid_section.proofs.LeafSheets.{leaf_sheet, point-leaf_sheet}
use Rattle.viz_grid_section.proofs.ContourSection.{HasLeaves, edges_have_leaves, names-section}

-- what holds of all items holds of the marked ones
All-kept : {X : Type 0} (P : X → Type 0) (marks : List Bool) (xs : List X) → All P xs → All P (kept marks xs)
All-kept P [] xs each = All-nil P
All-kept P (m ∷ ms) [] each = All-nil P
All-kept P (true ∷ ms) (x ∷ xs) each = All-cons P x (kept ms xs) (All-head P x xs each) (All-kept P ms xs (All-tail P x xs each))
All-kept P (false ∷ ms) (x ∷ xs) each = All-kept P ms xs (All-tail P x xs each)

-- what holds of what is made of the items holds of each item's
All-from_map : {X Y : Type 0} (P : Y → Type 0) (f : X → Y) (xs : List X) → All P (map f xs) → All (λ x. P (f x)) xs
All-from_map P f [] each = All-nil (λ x. P (f x))
All-from_map P f (x ∷ xs) each =
    All-cons (λ z. P (f z)) x xs (All-head P (f x) (map f xs) each) (All-from_map P f xs (All-tail P (f x) (map f xs) each))

-- the crossing of an edge by its name, and by its leaves
narrow_by_leaves : (f : Form) (count : ℕ) (at : ℕ → Point) (cells : List (List ℕ)) (e : Edge) → HasLeaves count cells e
    → IsNarrowName f (leaf_sheet count at cells) (edge_leaves e) → IsNarrowEdge f (at e.low) (at e.high)
narrow_by_leaves f count at cells e has narrow =
    let low = point-leaf_sheet count at cells e.low has.low in
    let high = point-leaf_sheet count at cells e.high has.high in
    subst (λ p. IsNarrowEdge f p (at e.high)) low (subst (λ q. IsNarrowEdge f (point_of (leaf_sheet count at cells) (e.low ∷ [])) q) high narrow)

narrow_by_name : (f : Form) (count : ℕ) (at : ℕ → Point) (cells : List (List ℕ)) (e : Edge) → HasLeaves count cells e
    → IsNarrowEdge f (at e.low) (at e.high) → IsNarrowName f (leaf_sheet count at cells) (edge_leaves e)
narrow_by_name f count at cells e has narrow =
    let low = point-leaf_sheet count at cells e.low has.low in
    let high = point-leaf_sheet count at cells e.high has.high in
    subst (λ q. IsNarrowEdge f (point_of (leaf_sheet count at cells) (e.low ∷ [])) q) (sym high) (subst (λ p. IsNarrowEdge f p (at e.high)) (sym low) narrow)

-- no value at a leaf is wide
narrow_points : (level : ℤ) (image : ImageData) → FitsSigned w64 level → IsImage image → All (IsNarrowValue (contour_form level)) (leaf_points image)
narrow_points level image fits rule =
    let count = count_of image.extent in
    let P : Point → Type 0 = IsNarrowValue (contour_form level) in
    All-map P (point_of_leaf image) (range_with_len 0 count) (λ k d less.
    let below : k < count = omega (arith, less, length-range_with_len 0 count) in
    let is : get_or (range_with_len 0 count) k d ≡ 0 + k = get_or-range_with_len 0 count k d below in
    subst (λ leaf. P (point_of_leaf image leaf)) (sym is) (narrow_leaf level image fits rule (0 + k) (omega (arith, below))))

-- the crossings on the edges of a section in which no number is wide
pub narrow_to_edges : (level : ℤ) (image : ImageData) → IsImage image → IsNarrowSection (contour_form level) (tetrahedra_sheet image) → AreNarrow level image (contour_edges level image)
narrow_to_edges level image rule narrow =
    let f = contour_form level in
    let P : List ℕ → Type 0 = IsNarrowName f (tetrahedra_sheet image) in
    let edges = contour_edges level image in
    let named : All P (map edge_leaves edges) = subst (λ ns. All P ns) (names-section level image rule.count) narrow.crossings in
    let each = All-from_map P edge_leaves edges named in
    record {
      each = λ k d less. narrow_by_leaves f (count_of image.extent) (point_of_leaf image) (tetrahedra_of image.extent) (get_or edges k d) (edges_have_leaves level image k d less) (each k d less);
    }

-- and back
pub narrow_from_edges : (level : ℤ) (image : ImageData) → FitsSigned w64 level → IsImage image → AreNarrow level image (contour_edges level image) → IsNarrowSection (contour_form level) (tetrahedra_sheet image)
narrow_from_edges level image fits rule narrow =
    let f = contour_form level in
    let count = count_of image.extent in
    let cells = tetrahedra_of image.extent in
    let P : List ℕ → Type 0 = IsNarrowName f (tetrahedra_sheet image) in
    let edges = contour_edges level image in
    let named : All P (map edge_leaves edges) = All-map P edge_leaves edges (λ k d less.
    narrow_by_name f count (point_of_leaf image) cells (get_or edges k d) (edges_have_leaves level image k d less) (narrow.each k d less)) in
    record {
      values = All-kept (IsNarrowValue f) (used_marks (length (leaf_names count)) cells) (leaf_points image) (narrow_points level image fits rule);
      crossings = subst (λ ns. All P ns) (sym (names-section level image rule.count)) named;
    }
