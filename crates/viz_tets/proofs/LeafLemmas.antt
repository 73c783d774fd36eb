-- The point of a place is that of its leaf.
use Rattle.std.proofs.Common.{◌≡◌, ℕ, zero, suc, ◌+◌, ◌-◌, ◌/◌, ◌%◌, ◌^◌, ◌≤◌, List, [], ◌∷◌, ◌++◌, length, map, refl, sym, subst, ap, ◌∙◌, append_assoc, append-nil, arith}
use Rattle.std.specs.List.{flat_map, range_with_len}
use Rattle.std.proofs.lemmas.List.FromFn.{length-map-range_with_len}
use Rattle.viz_extent.specs.Extent.{Bounds, Has, size_x, size_y}
use Rattle.viz_extent.specs.Numbering.{index_at}
use Rattle.viz_extent.proofs.NumberingLemmas.{parts-of_index}
use Rattle.viz_extent.specs.Extent.{count_of}
use Rattle.viz_fraction.specs.Points.{Point}
use Rattle.viz_dataset.specs.Images.{ImageData, IsImage, point_at}
use Rattle.viz_kuhn.specs.Kuhn.{OnlyCorners, EdgesAreSteps}
use Rattle.viz_kuhn.specs.Cubes.{tetrahedra_of}
use Rattle.viz_sheet.specs.Kept.{sheet_with}
use Rattle.viz_sheet.specs.Ranked.{AreCells, leaf_names}
use Rattle.viz_sheet.specs.Sheet.{SheetData}
use Rattle.viz_meaning.specs.Tetrahedra.{leaf_points, point_of_leaf, tetrahedra_sheet}
use Rattle.viz_meaning.proofs.LeafCells.{leaf-cells}
use Rattle.viz_meaning.proofs.TetrahedraLemmas.{tetrahedra-cells}

-- a place by its leaf's quotients
place-parts : (b : Bounds) (i j k leaf : ℕ) → Has b i j k → index_at b i j k ≡ leaf
    → (i ≡ b.x0 + leaf % size_x b) × (j ≡ b.y0 + leaf / size_x b % size_y b) × (k ≡ b.z0 + leaf / size_x b / size_y b)
place-parts b i j k leaf has is =
    let parts = parts-of_index b i j k leaf has is in
    (omega (arith, parts.0, has.x.at_least), omega (arith, parts.1, has.y.at_least), omega (arith, parts.2, has.z.at_least))

pub point-leaf : (image : ImageData) (b : Bounds) (i j k leaf : ℕ) → b ≡ image.extent → Has b i j k → index_at b i j k ≡ leaf
    → point_at image i j k ≡ point_of_leaf image leaf
point-leaf image b i j k leaf is has number =
    let here : Has image.extent i j k = subst (λ e. Has e i j k) is has in
    let same : index_at image.extent i j k ≡ leaf = subst (λ e. index_at e i j k ≡ leaf) is number in
    let parts = place-parts image.extent i j k leaf here same in
    ap (λ n. point_at image n j k) parts.0
    ∙ ap (λ n. point_at image (image.extent.x0 + leaf % size_x image.extent) n k) parts.1
    ∙ ap (λ n. point_at image (image.extent.x0 + leaf % size_x image.extent) (image.extent.y0 + leaf / size_x image.extent % size_y image.extent) n) parts.2

-- ---- lists over ranges

range-more : (a n : ℕ) → range_with_len a (suc n) ≡ range_with_len a n ++ (a + n) ∷ []
range-more a zero = ap (λ m. m ∷ []) {x = a} {y = a + 0} (omega arith)
range-more a (suc n) = ap (λ t. a ∷ t) (range-more (a + 1) n ∙ ap (λ m. range_with_len (a + 1) n ++ m ∷ []) {x = a + 1 + n} {y = a + suc n} (omega arith))

flat-append : {X Y : Type 0} (f : X → List Y) (xs ys : List X) → flat_map f (xs ++ ys) ≡ flat_map f xs ++ flat_map f ys
flat-append f [] ys = refl
flat-append f (x ∷ xs) ys = ap (λ t. f x ++ t) (flat-append f xs ys) ∙ sym (append_assoc (f x) (flat_map f xs) (flat_map f ys))

flat-flat : {X Y Z : Type 0} (f : Y → List Z) (g : X → List Y) (xs : List X) → flat_map f (flat_map g xs) ≡ flat_map (λ x. flat_map f (g x)) xs
flat-flat f g [] = refl
flat-flat f g (x ∷ xs) = flat-append f (g x) (flat_map g xs) ∙ ap (λ t. flat_map f (g x) ++ t) (flat-flat f g xs)

flat-map : {X Y Z : Type 0} (f : Y → List Z) (g : X → Y) (xs : List X) → flat_map f (map g xs) ≡ flat_map (λ x. f (g x)) xs
flat-map f g [] = refl
flat-map f g (x ∷ xs) = ap (λ t. f (g x) ++ t) (flat-map f g xs)

flat-range : {Y : Type 0} (f : ℕ → List Y) (a k : ℕ) → a ≤ k → flat_map f (range_with_len a (k + 1 - a)) ≡ flat_map f (range_with_len a (k - a)) ++ f k
flat-range f a k l =
    ap (λ n. flat_map f (range_with_len a n)) {x = k + 1 - a} {y = suc (k - a)} (omega arith)
    ∙ ap (flat_map f) (range-more a (k - a)) ∙ flat-append f (range_with_len a (k - a)) ((a + (k - a)) ∷ [])
    ∙ ap (λ t. flat_map f (range_with_len a (k - a)) ++ t) (append-nil (f (a + (k - a))) ∙ ap f {x = a + (k - a)} {y = k} (omega arith))

-- one index more, of lists of lists and of items
pub nested-more : {Y Z : Type 0} (f : Y → List Z) (g : ℕ → List Y) (a k : ℕ) (front old new : List Z) → a ≤ k → old ≡ front ++ flat_map f (flat_map g (range_with_len a (k - a))) → new ≡ old ++ flat_map f (g k)
    → new ≡ front ++ flat_map f (flat_map g (range_with_len a (k + 1 - a)))
nested-more f g a k front old new l is more =
    let h = λ (n : ℕ). flat_map f (g n) in
    more ∙ ap (λ t. t ++ h k) (is ∙ ap (λ t. front ++ t) (flat-flat f g (range_with_len a (k - a)))) ∙ append_assoc front (flat_map h (range_with_len a (k - a))) (h k)
    ∙ ap (λ t. front ++ t) (sym (flat-range h a k l) ∙ sym (flat-flat f g (range_with_len a (k + 1 - a))))

pub mapped-more : {Y Z : Type 0} (f : Y → List Z) (g : ℕ → Y) (a k : ℕ) (front old new : List Z) → a ≤ k → old ≡ front ++ flat_map f (map g (range_with_len a (k - a))) → new ≡ old ++ f (g k)
    → new ≡ front ++ flat_map f (map g (range_with_len a (k + 1 - a)))
mapped-more f g a k front old new l is more =
    let h = λ (n : ℕ). f (g n) in
    more ∙ ap (λ t. t ++ h k) (is ∙ ap (λ t. front ++ t) (flat-map f g (range_with_len a (k - a)))) ∙ append_assoc front (flat_map h (range_with_len a (k - a))) (h k)
    ∙ ap (λ t. front ++ t) (sym (flat-range h a k l) ∙ sym (flat-map f g (range_with_len a (k + 1 - a))))

-- ---- the sheet

pub tets-cells : OnlyCorners → EdgesAreSteps → (image : ImageData) (names : List (List ℕ)) (points : List Point) (cells : List (List ℕ)) → IsImage image
    → names ≡ leaf_names (count_of image.extent) → points ≡ leaf_points image → cells ≡ tetrahedra_of image.extent → AreCells names points cells
tets-cells only edges image names points cells is en ep ec =
    let count = count_of image.extent in
    let few : count ≤ 2 ^ 32 = omega (arith, is.extent.count) in
    let all = leaf-cells count (leaf_points image) (tetrahedra_of image.extent) few (length-map-range_with_len (point_of_leaf image) 0 count) (tetrahedra-cells only edges image.extent) in
    subst (λ (ns : List (List ℕ)). AreCells ns points cells) (sym en)
    (subst (λ (ps : List Point). AreCells (leaf_names count) ps cells) (sym ep)
    (subst (λ (cs : List (List ℕ)). AreCells (leaf_names count) (leaf_points image) cs) (sym ec) all))

pub tets-sheet : (image : ImageData) (s : SheetData) (names : List (List ℕ)) (points : List Point) (cells : List (List ℕ)) → names ≡ leaf_names (count_of image.extent) → points ≡ leaf_points image
    → cells ≡ tetrahedra_of image.extent → s ≡ sheet_with names points cells → s ≡ tetrahedra_sheet image
tets-sheet image s names points cells en ep ec is =
    is ∙ ap (λ ns. sheet_with ns points cells) en ∙ ap (λ ps. sheet_with (leaf_names (count_of image.extent)) ps cells) ep ∙ ap (sheet_with (leaf_names (count_of image.extent)) (leaf_points image)) ec
