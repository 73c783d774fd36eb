-- The sections of an image in pieces.
use Rattle.std.proofs.Common.{◌≡◌, ℕ, zero, suc, ◌+◌, ◌-◌, ◌*◌, ◌^◌, ◌<◌, ◌≤◌, Bool, List, [], ◌∷◌, ◌++◌, length, get_or, map, replicate, pos, refl, sym, ap, ap₂, subst, ◌∙◌, arith}
use Rattle.std.specs.List.{All, Contains, flat_map, range_with_len, sum}
use Rattle.std.proofs.lemmas.List.{get_or-map, length-append, length-map}
use Rattle.std.proofs.lemmas.List.Elements.{All-contains}
use Rattle.std.proofs.lemmas.List.Sums.{sum_by-cons}
use Rattle.viz_dataset.specs.Images.{ImageData, IsImage}
use Rattle.viz_extent.specs.Extent.{Bounds, IsExtent, plane_size}
use Rattle.viz_extent.specs.Slabs.{first_layer, next_layer, planes as planes_of}
use Rattle.viz_fraction.specs.Forms.{contour_form}
use Rattle.viz_fraction.specs.declared.forms.Form.{Form}
use Rattle.viz_kuhn.specs.Cubes.{tetrahedra_of}
use Rattle.viz_kuhn.specs.Kuhn.{EdgesAreSteps, OnlyCorners}
use Rattle.viz_meaning.specs.Narrow.{AreNarrowSections, IsNarrowSection}
use Rattle.viz_meaning.specs.Section.{cells_in, is_inside_at, point_of, section_of, sections_of}
use Rattle.viz_meaning.specs.Tetrahedra.{tetrahedra_sheet}
use Rattle.viz_meaning.specs.TetrahedraLaws.{TetrahedraHaveLeaves}
use Rattle.viz_parts.specs.Parts.{PartSheetData}
use Rattle.viz_parts.specs.Pieces.{AreAll, IsBlockOf, IsPieceOf, IsSheetPart}
use Rattle.viz_piece_filters.specs.Chains.{SectionsChain}
use Rattle.viz_piece_filters.specs.Filters.{handed_section}
use Rattle.viz_piece_filters.specs.HandedOn.{counts, handed_on}
use Rattle.viz_piece_filters.specs.Owns.{OwnsHandOn}
use Rattle.viz_piece_layers.specs.Layers.{LayersAreEven, LeavesLieBetween, PlanesHaveLayers, distance, layer_size, layer_tets, shifted}
use Rattle.viz_piece_layers.specs.Pieces.{leaf_shift, named, own_tets}
use Rattle.viz_piece_layers.specs.Sheets.{shifted_sheet}
use Rattle.viz_piece_layers.proofs.PieceLemmas.{named-in}
use Rattle.viz_piece_layers.proofs.RangeLemmas.{map-const}
use Rattle.viz_piece_layers.proofs.SheetLemmas.{sheet-named}
use Rattle.viz_piece_tets.specs.Asked.{asked}
use Rattle.viz_piece_tets.specs.Layers.{block_levels}
use Rattle.viz_piece_tets.specs.Tets.{LayersShareOut, TetsAreParts, tets_part}
use Rattle.viz_piece_tets.proofs.PlaneLemmas.{ArePlanes, levels-are, low-is}
use Rattle.viz_sheet.specs.Sheet.{SheetData}
use Rattle.viz_sheet.proofs.MemberLemmas.{here, there}
use Rattle.viz_piece_section.specs.Sections.{SectionsAreParts, SectionsShareOut, own_section, section_piece, sections_by_layers}
use Rattle.viz_piece_section.specs.Shifted.{SectionsShift}
use Rattle.viz_piece_section.specs.Steps.Leaves.{cell_level}
use Rattle.viz_piece_section.proofs.LevelLemmas.{Match, handed-mapped, level-is, match-each, match-range}

-- ---- the law

pub parts_are : TetsAreParts → SectionsChain → TetrahedraHaveLeaves → SectionsAreParts
parts_are tets chain names f whole block p n ghosts less is =
    (chain f 1 (tetrahedra_sheet whole) (own_tets n whole.extent p) ghosts (tets_part p n whole.extent block) (names whole) (tets whole block p n ghosts less is)).part_is

-- ---- the parts of several forms

pub singles : (forms : List Form) (s : SheetData) → sections_of forms (s ∷ []) ≡ map (λ f. section_of f s) forms
singles [] s = refl
singles (f ∷ fs) s = ap (λ t. section_of f s ∷ t) (singles fs s)

at-each : (a : Form → SheetData) (b : Form → List Bool) (p : Form → PartSheetData) (ghosts : ℕ) (forms : List Form)
    → ((f : Form) → Contains forms f → IsSheetPart (a f) (b f) ghosts (p f)) → (k : ℕ) (s : SheetData) (q : PartSheetData) → k < length forms
    → IsSheetPart (get_or (map a forms) k s) (get_or (map b forms) k []) ghosts (get_or (map p forms) k q)
at-each a b p ghosts [] h k s q l = absurd (omega arith)
at-each a b p ghosts (f ∷ fs) h zero s q l = h f (here f fs)
at-each a b p ghosts (f ∷ fs) h (suc k) s q l = at-each a b p ghosts fs (λ g c. h g (there f fs g c)) k s q (omega (arith, l))

pieces-of : (a : Form → SheetData) (b : Form → List Bool) (p : Form → PartSheetData) (ghosts : ℕ) (forms : List Form)
    → ((f : Form) → Contains forms f → IsSheetPart (a f) (b f) ghosts (p f)) → IsPieceOf (map a forms) (map b forms) ghosts (map p forms)
pieces-of a b p ghosts forms h = record {
  matched = length-map forms p ∙ sym (length-map forms a);
  owned = length-map forms b ∙ sym (length-map forms a);
  each = λ k s q l. at-each a b p ghosts forms h k s q (subst (λ m. k < m) (length-map forms a) l);
}

pub sections-answer : SectionsAreParts → (forms : List Form) (p n ghosts : ℕ) (whole : Bounds) (block : ImageData) (items : List PartSheetData) → p < n
    → items ≡ map (λ f. section_piece f p n whole block) forms → (image : ImageData) → image.extent ≡ whole → IsBlockOf image (asked p n ghosts whole) block
    → IsPieceOf (sections_of forms (tetrahedra_sheet image ∷ [])) (sections_by_layers forms image p n) ghosts items
sections-answer parts forms p n ghosts whole block items less is image same of =
    subst (IsPieceOf (sections_of forms (tetrahedra_sheet image ∷ [])) (sections_by_layers forms image p n) ghosts) (sym is)
    (subst (λ (sheets : List SheetData). IsPieceOf sheets (sections_by_layers forms image p n) ghosts (map (λ f. section_piece f p n whole block) forms))
    (sym (singles forms (tetrahedra_sheet image)))
    (pieces-of (λ f. section_of f (tetrahedra_sheet image)) (λ f. own_section f image p n) (λ f. section_piece f p n whole block) ghosts forms
    (λ f c. subst (λ e. IsBlockOf image (asked p n ghosts e) block → IsSheetPart (section_of f (tetrahedra_sheet image)) (own_section f image p n) ghosts (section_piece f p n e block)) same
    (parts f image block p n ghosts less) of)))

-- ---- all pieces own all cells

length-made : {X : Type 0} (f : X → List (List (List ℕ))) (xs : List X) → length (flat_map f xs) ≡ sum (map (λ x. length (f x)) xs)
length-made f [] = refl
length-made f (x ∷ xs) =
    length-append (f x) (flat_map f xs) ∙ ap (λ k. length (f x) + k) (length-made f xs)
    ∙ sym (sum_by-cons (λ n. n) (length (f x)) (map (λ y. length (f y)) xs))

map-map : {X Y Z : Type 0} (g : Y → Z) (f : X → Y) (xs : List X) → map g (map f xs) ≡ map (λ x. g (f x)) xs
map-map g f [] = refl
map-map g f (x ∷ xs) = ap (λ t. g (f x) ∷ t) (map-map g f xs)

map-each : {X Y : Type 0} (f g : X → Y) → ((x : X) → f x ≡ g x) → (xs : List X) → map f xs ≡ map g xs
map-each f g h [] = refl
map-each f g h (x ∷ xs) = ap₂ (λ a b. a ∷ b) (h x) (map-each f g h xs)

own-all : LayersShareOut → OwnsHandOn → (f : Form) (whole : ImageData) (n : ℕ) → IsImage whole → 0 < n
    → AreAll (length (section_of f (tetrahedra_sheet whole)).cells) (map (λ p. own_section f whole p n) (range_with_len 0 n))
own-all shares owns f whole n is some =
    let t = tetrahedra_sheet whole in
    let made = cells_in (λ m. is_inside_at f (point_of t m)) in
    let cs = counts made t.cells in
    let tets = (shares whole n is some).all 0 t (omega arith) in
    let pieces = map (own_tets n whole.extent) (range_with_len 0 n) in
    let whole_cells : AreAll (length cs) pieces = subst (λ k. AreAll k pieces) (sym (length-map t.cells (λ c. length (made c)))) tets in
    subst (λ k. AreAll k (map (λ p. own_section f whole p n) (range_with_len 0 n))) (sym (length-made made t.cells))
    (subst (AreAll (sum cs)) (map-map (λ own. handed_on own cs) (own_tets n whole.extent) (range_with_len 0 n)) (owns cs pieces whole_cells))

own-at : (n : ℕ) (whole : ImageData) (forms : List Form) (k : ℕ) (d : Form) → k < length forms → (ps : List ℕ)
    → map (λ p. get_or (sections_by_layers forms whole p n) k []) ps ≡ map (λ p. own_section (get_or forms k d) whole p n) ps
own-at n whole forms k d l ps =
    map-each (λ p. get_or (sections_by_layers forms whole p n) k []) (λ p. own_section (get_or forms k d) whole p n)
    (λ p. get_or-map (λ f. own_section f whole p n) forms k d [] l) ps

pub share_out : LayersShareOut → OwnsHandOn → SectionsShareOut
share_out shares owns forms whole n is some = record {
  matched = λ p l. length-map forms (λ f. own_section f whole p n) ∙ sym (ap length (singles forms t) ∙ length-map forms (λ f. section_of f t));
  all = λ k s l.
      let below : k < length forms = subst (λ m. k < m) (ap length (singles forms t) ∙ length-map forms (λ f. section_of f t)) l in
      let f = get_or forms k (contour_form (pos 0)) in
      let sheet : get_or (sections_of forms (t ∷ [])) k s ≡ section_of f t =
      ap (λ sheets. get_or sheets k s) (singles forms t) ∙ get_or-map (λ f. section_of f t) forms k (contour_form (pos 0)) s below in
      subst (λ (q : SheetData). AreAll (length q.cells) (map (λ p. get_or (sections_by_layers forms whole p n) k []) (range_with_len 0 n))) (sym sheet)
      (subst (AreAll (length (section_of f t).cells)) (sym (own-at n whole forms k (contour_form (pos 0)) below (range_with_len 0 n)))
      (own-all shares owns f whole n is some));
}
  where
    t : SheetData
    t = tetrahedra_sheet whole

-- ---- cells of a piece by layers

shift-cell : (by : ℕ) (t : List ℕ) → map (map (λ leaf. leaf + by)) (map (λ leaf. leaf ∷ []) t) ≡ map (λ leaf. leaf ∷ []) (map (λ leaf. leaf + by) t)
shift-cell by [] = refl
shift-cell by (l ∷ ls) = ap (λ r. ((l + by) ∷ []) ∷ r) (shift-cell by ls)

shift-named : (by : ℕ) (tets : List (List ℕ)) → map (map (map (λ leaf. leaf + by))) (named tets) ≡ named (shifted by tets)
shift-named by [] = refl
shift-named by (t ∷ ts) = ap₂ (λ a b. a ∷ b) (shift-cell by t) (shift-named by ts)

cells-are : OnlyCorners → EdgesAreSteps → PlanesHaveLayers → (p n : ℕ) (whole : Bounds) (block : ImageData) (s : ArePlanes whole block.extent)
    → (tets_part p n whole block).sheet.cells ≡ flat_map (λ z. named (layer_tets whole z)) (range_with_len s.low (s.high - s.low))
cells-are only edges planes p n whole block s =
    let b = block.extent in
    let by = leaf_shift whole b in
    ap (map (map (map (λ leaf. leaf + by)))) (sheet-named only edges block)
    ∙ shift-named by (tetrahedra_of b)
    ∙ ap named
    (ap (λ e. shifted by (tetrahedra_of e)) s.is
    ∙ ap (λ k. shifted (k * plane_size whole) (tetrahedra_of (planes_of s.low s.high whole))) (low-is whole b s)
    ∙ planes whole s.low s.high s.order s.within)
    ∙ sym (named-in whole s.low s.high)

pub handed-is : OnlyCorners → EdgesAreSteps → PlanesHaveLayers → LayersAreEven → LeavesLieBetween → (f : Form) (p n : ℕ) (whole : Bounds) (block : ImageData)
    → IsExtent whole → ArePlanes whole block.extent
    → (section_piece f p n whole block).levels
    ≡ map (cell_level (first_layer p n whole) (next_layer p n whole) whole) (section_piece f p n whole block).sheet.cells
handed-is only edges planes even between f p n whole block is s =
    let part = tets_part p n whole block in
    let inside = λ (m : List ℕ). is_inside_at f (point_of part.sheet m) in
    let made = cells_in inside in
    let first = first_layer p n whole in
    let next = next_layer p n whole in
    let level = cell_level first next whole in
    let size = layer_size whole in
    let layer = λ (z : ℕ). named (layer_tets whole z) in
    let levels = λ (z : ℕ). replicate size (distance first next z) in
    let cells = cells-are only edges planes p n whole block s in
    let range = range_with_len s.low (s.high - s.low) in
    let within = s.within in
    let order = s.order in
    let long : (z : ℕ) → length (layer z) ≡ size = λ z. length-map (layer_tets whole z) _ ∙ even whole z in
    ap₂ (λ ls cs. handed_on ls (counts made cs)) (levels-are p n whole block.extent s) cells
    ∙ handed-mapped made level (flat_map levels range) (flat_map layer range)
    (match-range made level levels layer s.low (s.high - s.low)
    (λ z a b. subst (λ k. Match made level (replicate k (distance first next z)) (layer z)) (long z)
    (match-each made level (distance first next z) (layer z) (λ c m. level-is between inside whole first next z c is (omega (arith, a, b, within, order)) m))))
    ∙ ap (λ cs. map level (flat_map made cs)) (sym cells)

-- own cells alone
pub own-handed : (f : Form) (p n count : ℕ) (whole : Bounds) (block : ImageData) → length (tets_part p n whole block).sheet.cells ≡ length (block_levels p n whole block.extent)
    → replicate (length (block_levels p n whole block.extent)) 0 ≡ block_levels p n whole block.extent
    → count ≡ length (section_piece f p n whole block).sheet.cells
    → replicate count 0 ≡ (section_piece f p n whole block).levels
own-handed f p n count whole block match all is =
    let part = tets_part p n whole block in
    let made = cells_in (λ m. is_inside_at f (point_of part.sheet m)) in
    let cs = part.sheet.cells in
    ap (λ k. replicate k 0) is
    ∙ sym (map-const 0 (flat_map made cs))
    ∙ sym (handed-mapped made (λ x. 0) (replicate (length cs) 0) cs (match-each made (λ x. 0) 0 cs (λ c m k d l. refl)))
    ∙ ap (λ ls. handed_on ls (counts made cs)) (ap (λ k. replicate k 0) match ∙ all)

-- ---- the sheet of a piece

pub sheet-is : SectionsShift → (f : Form) (p n by : ℕ) (whole : Bounds) (block : ImageData) (s : SheetData) (r : SheetData)
    → s ≡ section_of f (tetrahedra_sheet block) → by ≡ leaf_shift whole block.extent → r ≡ shifted_sheet by s
    → r ≡ (section_piece f p n whole block).sheet
sheet-is shift f p n by whole block s r es eb er =
    er ∙ ap₂ shifted_sheet eb es ∙ sym (shift (leaf_shift whole block.extent) f (tetrahedra_sheet block))

-- ---- where none of several forms has a wide number

pub all-narrow : (forms : List Form) (image : ImageData) → All (λ f. IsNarrowSection f (tetrahedra_sheet image)) forms → AreNarrowSections forms (tetrahedra_sheet image ∷ [])
all-narrow forms image h = record { each = λ k d l. one (get_or forms k d) (h k d l) }
  where
    one : (f : Form) → IsNarrowSection f (tetrahedra_sheet image) → All (IsNarrowSection f) (tetrahedra_sheet image ∷ [])
    one f n zero d l = n
    one f n (suc k) d l = absurd (omega (arith, l))

pub narrow-at : (forms : List Form) (image : ImageData) (i : ℕ) (d : Form) → i < length forms → AreNarrowSections forms (tetrahedra_sheet image ∷ [])
    → IsNarrowSection (get_or forms i d) (tetrahedra_sheet image)
narrow-at forms image i d l h = h.each i d l 0 (tetrahedra_sheet image) (omega arith)
