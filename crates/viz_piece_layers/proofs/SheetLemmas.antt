-- Pieces of the sheet of an image's tetrahedra.
use Rattle.std.proofs.Common.{◌≡◌, ℕ, ◌+◌, ◌-◌, ◌*◌, ◌/◌, ◌%◌, ◌<◌, ◌≤◌, ⊎_elim, false, true≢false, Option, Some, None, List, [], ◌∷◌, ◌++◌, length, get_or, map, refl, sym, ap, ap₂, subst, ◌∙◌, arith}
use Rattle.std.specs.List.{All, Contains, flat_map, range_with_len}
use Rattle.std.proofs.lemmas.Bool.{cases_lt}
use Rattle.std.proofs.lemmas.List.{get_or-map, get_or_default, get_or_past, length-map}
use Rattle.std.proofs.lemmas.List.Elements.{Contains-append_cases, Contains-append_left, Contains-append_right, Contains-get_or}
use Rattle.std.proofs.lemmas.List.FromFn.{length-map-range_with_len, get_or-map-range_with_len}
use Rattle.viz_dataset.specs.Images.{ImageData, IsImage, IsRestricted, placed, point_at, number_at}
use Rattle.viz_extent.specs.Extent.{Bounds, Has, IsExtent, size_x, size_y, size_z, plane_size, count_of}
use Rattle.viz_extent.specs.Numbering.{index_at}
use Rattle.viz_extent.proofs.NumberingLemmas.{index_at-by_rows, number-of_parts, parts-of_index, plane_below}
use Rattle.viz_fraction.specs.Points.{Point}
use Rattle.viz_kuhn.specs.Kuhn.{EdgesAreSteps, OnlyCorners}
use Rattle.viz_kuhn.specs.Cubes.{cubes_z, tetrahedra_of}
use Rattle.viz_meaning.specs.Tetrahedra.{leaf_points, point_of_leaf, tetrahedra_sheet}
use Rattle.viz_meaning.specs.TetrahedraLaws.{TetrahedraAreSheet}
use Rattle.viz_meaning.proofs.ListLemmas.{contains-map, flat-map, map-same}
use Rattle.viz_meaning.proofs.TetrahedraLemmas.{tetrahedra-cells}
use Rattle.viz_sheet.specs.Kept.{is_used, kept, used_marks}
use Rattle.viz_sheet.specs.Ranked.{by_names, leaf_names, names_at}
use Rattle.viz_sheet.specs.Sheet.{KeepPoints}
use Rattle.viz_sheet.proofs.KeptLemmas.{kept-at, rank-from}
use Rattle.viz_piece_layers.specs.Layers.{shifted}
use Rattle.viz_extent.specs.Slabs.{planes}
use Rattle.viz_parts.specs.Pieces.{AreAll}
use Rattle.viz_piece_layers.specs.Pieces.{first_seen, last_seen, leaf_shift, named, own_tets, seen_by, seen_planes}
use Rattle.viz_extent.specs.Slabs.{first_layer, next_layer}
use Rattle.viz_piece_layers.specs.Cells.{Cell, Name}
use Rattle.viz_parts.specs.Seen.{Seen, cell_if, cells_seen, whole_seen}
use Rattle.viz_piece_layers.specs.Sheets.{tetrahedra_part, SheetOwnsAreAll, TetrahedraPartsArePartOf}
use Rattle.viz_piece_layers.proofs.PartLemmas.{last_within}
use Rattle.viz_piece_layers.proofs.PieceLemmas.{touched_planes, owns_are_all, owns_within, pieces_are_parts}

-- ---- tetrahedra by names

leaf-name : (count r : ℕ) → r < count → get_or (leaf_names count) r [] ≡ r ∷ []
leaf-name count r l = get_or-map-range_with_len (λ leaf. leaf ∷ []) 0 count r r [] l (omega arith)

cells-named : (count : ℕ) (tets : List (List ℕ)) → All (All (λ l. l < count)) tets → by_names (leaf_names count) tets ≡ named tets
cells-named count tets h =
    map-same (names_at (leaf_names count)) (map (λ leaf. leaf ∷ [])) tets
    (λ k d l. map-same (λ r. get_or (leaf_names count) r []) (λ leaf. leaf ∷ []) (get_or tets k d) (λ i e m. leaf-name count (get_or (get_or tets k d) i e) (h k d l i e m)))

pub sheet-named : OnlyCorners → EdgesAreSteps → (image : ImageData) → (tetrahedra_sheet image).cells ≡ named (tetrahedra_of image.extent)
sheet-named only edges image =
    let b = image.extent in
    cells-named (count_of b) (tetrahedra_of b) (λ k d l. (tetrahedra-cells only edges b k d l).below)

shift-cell : (by : ℕ) (t : List ℕ) → map (map (λ leaf. leaf + by)) (map (λ leaf. leaf ∷ []) t) ≡ map (λ leaf. leaf ∷ []) (map (λ leaf. leaf + by) t)
shift-cell by [] = refl
shift-cell by (l ∷ ls) = ap (λ r. ((l + by) ∷ []) ∷ r) (shift-cell by ls)

shift-named : (by : ℕ) (tets : List (List ℕ)) → map (map (map (λ leaf. leaf + by))) (named tets) ≡ named (shifted by tets)
shift-named by [] = refl
shift-named by (t ∷ ts) = ap₂ (λ a b. a ∷ b) (shift-cell by t) (shift-named by ts)

-- ---- names of leaves and their points

record IsLeafAt (image : ImageData) (k : ℕ) : Type 0 where
  leaf : ℕ
  below : leaf < count_of image.extent
  name : get_or (tetrahedra_sheet image).names k [] ≡ leaf ∷ []
  point : (d : Point) → get_or (tetrahedra_sheet image).points k d ≡ point_of_leaf image leaf

leaf-at : (image : ImageData) (k : ℕ) → k < length (tetrahedra_sheet image).names → IsLeafAt image k
leaf-at image k l =
    let count = count_of image.extent in
    let names = leaf_names count in
    let points = leaf_points image in
    let tets = tetrahedra_of image.extent in
    let marks = used_marks (length names) tets in
    let size : length marks ≡ length names = length-map-range_with_len (is_used tets) 0 (length names) in
    let all : length names ≡ count = length-map-range_with_len (λ leaf. leaf ∷ []) 0 count in
    let each : length points ≡ count = length-map-range_with_len (point_of_leaf image) 0 count in
    let r = rank-from marks names k size l in
    let below : r.0 < count =
    ⊎_elim (λ less. less) (λ past. absurd (true≢false (sym r.1 ∙ get_or_past marks r.0 false (omega (arith, past, size, all))))) (cases_lt r.0 count) in
    record {
      leaf = r.0;
      below = below;
      name = ap (λ q. get_or (kept marks names) q []) (sym r.2) ∙ kept-at marks names r.0 [] size r.1 ∙ leaf-name count r.0 below;
      point = λ d.
          ap (λ q. get_or (kept marks points) q d) (sym r.2) ∙ kept-at marks points r.0 d (size ∙ all ∙ sym each) r.1
          ∙ get_or-map-range_with_len (point_of_leaf image) 0 count r.0 r.0 d below (omega arith);
    }

-- ---- a leaf's point in the whole

-- where a leaf lies
record Lies (b : Bounds) (leaf i j k : ℕ) : Type 0 where
  has : Has b i j k
  number : index_at b i j k ≡ leaf

lies : (b : Bounds) (leaf : ℕ) → IsExtent b → leaf < count_of b → Lies b leaf (b.x0 + leaf % size_x b) (b.y0 + leaf / size_x b % size_y b) (b.z0 + leaf / size_x b / size_y b)
lies b leaf is below =
    let r = leaf % size_x b in
    let q = leaf / size_x b % size_y b in
    let p = leaf / size_x b / size_y b in
    let ox = is.x.order in
    let oy = is.y.order in
    let oz = is.z.order in
    let across : r < size_x b = omega arith in
    let along : q < size_y b = omega arith in
    let above : p < size_z b = plane_below leaf (size_x b) (size_y b) (size_z b) below in
    let x : b.x0 + r - b.x0 ≡ r = omega arith in
    let y : b.y0 + q - b.y0 ≡ q = omega arith in
    let z : b.z0 + p - b.z0 ≡ p = omega arith in
    let again = number-of_parts leaf (size_x b) (size_y b) in
    record {
      has = record {
        x = record { at_least = omega arith; at_most = omega (arith, across, ox) };
        y = record { at_least = omega arith; at_most = omega (arith, along, oy) };
        z = record { at_least = omega arith; at_most = omega (arith, above, oz) };
      };
      number = index_at-by_rows b (b.x0 + r) (b.y0 + q) (b.z0 + p) ∙ rw x (rw y (rw z again));
    }

point-of : (image : ImageData) (i j k leaf : ℕ) → Has image.extent i j k → index_at image.extent i j k ≡ leaf → point_at image i j k ≡ point_of_leaf image leaf
point-of image i j k leaf has is =
    let b = image.extent in
    let parts = parts-of_index b i j k leaf has is in
    let x : i ≡ b.x0 + leaf % size_x b = omega (arith, parts.0, has.x.at_least) in
    let y : j ≡ b.y0 + leaf / size_x b % size_y b = omega (arith, parts.1, has.y.at_least) in
    let z : k ≡ b.z0 + leaf / size_x b / size_y b = omega (arith, parts.2, has.z.at_least) in
    ap (λ n. point_at image n j k) x
    ∙ ap (λ n. point_at image (b.x0 + leaf % size_x b) n k) y
    ∙ ap (λ n. point_at image (b.x0 + leaf % size_x b) (b.y0 + leaf / size_x b % size_y b) n) z

-- the planes of a whole have its points, with numbers so much lower
in-whole : (b : Bounds) (low high i j k leaf : ℕ) → IsExtent b → high ≤ cubes_z b → Has (planes low high b) i j k → index_at (planes low high b) i j k ≡ leaf
    → Lies b (leaf + low * plane_size b) i j k
in-whole b low high i j k leaf is m has number =
    let order = is.z.order in
    let x = has.x in
    let y = has.y in
    let z = has.z in
    let up : k - b.z0 ≡ k - (b.z0 + low) + low = omega (arith, z.at_least) in
    record {
      has = record { x = x; y = y; z = record { at_least = omega (arith, z.at_least); at_most = omega (arith, z.at_most, m, order) } };
      number =
          ap (λ n. i - b.x0 + (j - b.y0) * size_x b + n * plane_size b) up
          ∙ sums (i - b.x0) ((j - b.y0) * size_x b) (k - (b.z0 + low)) low (plane_size b)
          ∙ ap (λ n. n + low * plane_size b) number;
    }
  where
    sums : (a c n low p : ℕ) → a + c + (n + low) * p ≡ a + c + n * p + low * p
    sums a c n low p = omega arith

same-point : (whole image : ImageData) (low high leaf : ℕ) → IsImage whole → IsImage image → high ≤ cubes_z whole.extent
    → IsRestricted whole (planes low high whole.extent) image → leaf < count_of image.extent
    → point_of_leaf image leaf ≡ point_of_leaf whole (leaf + low * plane_size whole.extent)
same-point whole image low high leaf is part_is m r below =
    let b = image.extent in
    let i = b.x0 + leaf % size_x b in
    let j = b.y0 + leaf / size_x b % size_y b in
    let k = b.z0 + leaf / size_x b / size_y b in
    let here = lies b leaf part_is.extent below in
    let has : Has (planes low high whole.extent) i j k = subst (λ e. Has e i j k) r.extent here.has in
    let number : index_at (planes low high whole.extent) i j k ≡ leaf = subst (λ e. index_at e i j k ≡ leaf) r.extent here.number in
    let there = in-whole whole.extent low high i j k leaf is.extent m has number in
    ap (λ o. placed o image.spacing i j k (number_at image i j k)) r.origin
    ∙ ap (λ s. placed whole.origin s i j k (number_at image i j k)) r.spacing
    ∙ ap (placed whole.origin whole.spacing i j k) (r.values i j k has)
    ∙ point-of whole i j k (leaf + low * plane_size whole.extent) there.has there.number

-- ---- names that a part has

if-there : (c : Cell) (l : Option ℕ) (rest whole : List Cell) (n : Name) → (Contains (flat_map (λ x. x) rest) n → Contains (flat_map (λ x. x) whole) n)
    → Contains (flat_map (λ x. x) (cell_if c l ++ rest)) n → Contains (flat_map (λ x. x) (c ∷ whole)) n
if-there c (Some l) rest whole n h m =
    ⊎_elim (λ d. Contains-append_left c (flat_map (λ x. x) whole) n d) (λ d. Contains-append_right c (flat_map (λ x. x) whole) n (h d))
    (Contains-append_cases c (flat_map (λ x. x) rest) n m)
if-there c None rest whole n h m = Contains-append_right c (flat_map (λ x. x) whole) n (h m)

names-there : (seen : List Seen) (n : Name) → Contains (flat_map (λ x. x) (cells_seen seen)) n → Contains (flat_map (λ x. x) (whole_seen seen)) n
names-there [] n m = m
names-there (s ∷ seen) n m = if-there s.cell s.level (cells_seen seen) (whole_seen seen) n (names-there seen n) m

-- ---- the part

-- its cells
pub part_cells : OnlyCorners → EdgesAreSteps → (whole image : ImageData) (p n ghosts : ℕ) → IsImage whole → p < n → IsRestricted whole (seen_planes p n ghosts whole.extent) image
    → cells_seen (seen_by p n ghosts whole.extent) ≡ (tetrahedra_part p n ghosts whole image).sheet.cells
part_cells only edges whole image p n ghosts is less r =
    let by : ℕ = leaf_shift whole.extent image.extent in
    (pieces_are_parts only whole.extent p n ghosts is.extent less).cells
    ∙ ap (λ e. named (shifted (leaf_shift whole.extent e) (tetrahedra_of e))) (sym r.extent)
    ∙ sym (shift-named by (tetrahedra_of image.extent))
    ∙ ap (map (map (map (λ leaf. leaf + by)))) (sym (sheet-named only edges image))

pub parts_are : OnlyCorners → EdgesAreSteps → TetrahedraAreSheet → TetrahedraPartsArePartOf
parts_are only edges sheets whole image p n ghosts is part_is less r =
    let b = whole.extent in
    let seen = seen_by p n ghosts b in
    let piece = pieces_are_parts only b p n ghosts is.extent less in
    let within = owns_within p n b less in
    let from = first_seen p n ghosts b in
    let to = last_seen p n ghosts b in
    let same : seen_planes p n ghosts b ≡ planes from to b = touched_planes b (first_layer p n b) (next_layer p n b) ghosts in
    let restricted : IsRestricted whole (planes from to b) image = subst (λ e. IsRestricted whole e image) same r in
    let by = leaf_shift b image.extent in
    let shift : by ≡ from * plane_size b =
    ap (leaf_shift b) restricted.extent ∙ ap (λ k. k * plane_size b) {x = b.z0 + from - b.z0} {y = from} (omega arith) in
    let cells = part_cells only edges whole image p n ghosts is less r in
    let covered : whole_seen seen ≡ (tetrahedra_sheet whole).cells = piece.whole ∙ sym (sheet-named only edges whole) in
    let outer = sheets whole is in
    let inner = sheets image part_is in
    let last = last_within (cubes_z b) (next_layer p n b) ghosts in
    let points : KeepPoints (map (map (λ leaf. leaf + by)) (tetrahedra_sheet image).names) (tetrahedra_sheet image).points (tetrahedra_sheet whole).names (tetrahedra_sheet whole).points =
    λ k d l.
    let short : k < length (tetrahedra_sheet image).names = subst (λ m. k < m) (length-map (tetrahedra_sheet image).names (map (λ leaf. leaf + by))) l in
    let at = leaf-at image k short in
    let name : Name = (at.leaf + by) ∷ [] in
    let has : Contains (tetrahedra_sheet image).names (at.leaf ∷ []) = subst (Contains (tetrahedra_sheet image).names) at.name (Contains-get_or (tetrahedra_sheet image).names k [] short) in
    let used = (inner.used (at.leaf ∷ [])).0 has in
    let moved : Contains (flat_map (λ x. x) (map (map (map (λ leaf. leaf + by))) (tetrahedra_sheet image).cells)) name =
    subst (λ ns. Contains ns name) (sym (flat-map (map (λ leaf. leaf + by)) (tetrahedra_sheet image).cells))
    (contains-map (map (λ leaf. leaf + by)) (flat_map (λ x. x) (tetrahedra_sheet image).cells) (at.leaf ∷ []) used) in
    let in_whole : Contains (flat_map (λ x. x) (tetrahedra_sheet whole).cells) name =
    subst (λ cs. Contains (flat_map (λ x. x) cs) name) covered (names-there seen name (subst (λ cs. Contains (flat_map (λ x. x) cs) name) (sym cells) moved)) in
    let found = (outer.used name).1 in_whole in
    let there_is = leaf-at whole found.0 found.1 in
    let found_name : get_or (tetrahedra_sheet whole).names found.0 [] ≡ name = get_or_default (tetrahedra_sheet whole).names found.0 [] name found.1 ∙ found.2 in
    let leaf : there_is.leaf ≡ at.leaf + by = ap (λ ns. get_or ns 0 0) (sym there_is.name ∙ found_name) in (
      found.0,
      found.1,
      get_or-map (map (λ leaf. leaf + by)) (tetrahedra_sheet image).names k [] [] short ∙ ap (map (λ leaf. leaf + by)) at.name ∙ sym found_name,
      at.point d ∙ same-point whole image from to at.leaf is part_is last restricted at.below
          ∙ ap (λ q. point_of_leaf whole (at.leaf + q)) (sym shift) ∙ ap (point_of_leaf whole) (sym leaf) ∙ sym (there_is.point d),
    ) in
    record {
      seen = seen;
      covered = covered;
      owned = piece.owned;
      rule = piece.rule;
      cells = cells;
      levels = piece.levels;
      points = points;
    }

pub sheet_owns : OnlyCorners → EdgesAreSteps → SheetOwnsAreAll
sheet_owns only edges whole n is some =
    let b = whole.extent in
    let count : length (tetrahedra_sheet whole).cells ≡ length (tetrahedra_of b) =
    ap length (sheet-named only edges whole) ∙ length-map (tetrahedra_of b) (map (λ leaf. leaf ∷ [])) in
    subst (λ k. AreAll k (map (own_tets n b) (range_with_len 0 n))) (sym count) (owns_are_all b n some)
