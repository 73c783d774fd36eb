-- The block that a piece asks for gives a part of the whole's tetrahedra.
use Rattle.std.proofs.Common.{◌≡◌, ℕ, zero, suc, ◌*◌, ◌<◌, ◌≤◌, ⊎_elim, Bool, List, [], ◌∷◌, get_or, length, map, refl, sym, ap, ap₂, subst, ◌∙◌, arith}
use Rattle.std.specs.List.{range_with_len}
use Rattle.std.proofs.lemmas.Bool.{cases_lt}
use Rattle.std.proofs.lemmas.List.{length-map}
use Rattle.std.proofs.lemmas.Nat.{mul-le}
use Rattle.viz_dataset.specs.Images.{ImageData, IsRestricted}
use Rattle.viz_extent.specs.Extent.{Bounds}
use Rattle.viz_extent.specs.Slabs.{first_layer, next_layer, planes}
use Rattle.viz_kuhn.specs.Cubes.{cubes_x, cubes_y, cubes_z, tetrahedra_of}
use Rattle.viz_kuhn.proofs.CubeLemmas.{length-tetrahedra_of}
use Rattle.viz_meaning.specs.Tetrahedra.{tetrahedra_sheet}
use Rattle.viz_meaning.specs.TetrahedraLaws.{TetrahedraAreSheet}
use Rattle.viz_parts.specs.Parts.{PartSheetData}
use Rattle.viz_parts.specs.Pieces.{AreAll, IsBlockOf, IsPartOf, IsPieceOf, IsSheetPart, own_range}
use Rattle.viz_piece_layers.specs.Layers.{layer_size}
use Rattle.viz_piece_layers.specs.Pieces.{first_seen, last_seen, leaf_shift, own_tets, piece_levels, seen_planes}
use Rattle.viz_piece_layers.specs.Sheets.{SheetOwnsAreAll, ShiftedIsSheet, TetrahedraPartsArePartOf, shifted_sheet}
use Rattle.viz_piece_layers.proofs.PieceLemmas.{owns_within}
use Rattle.viz_sheet.specs.Sheet.{SheetData}
use Rattle.viz_piece_tets.specs.Asked.{asked}
use Rattle.viz_piece_tets.specs.Layers.{block_levels}
use Rattle.viz_piece_tets.specs.Tets.{LayersShareOut, TetsAreParts, by_layers, tets_part}
use Rattle.viz_piece_tets.proofs.NoneLemmas.{no-cubes, none-part, none-there}
use Rattle.viz_piece_tets.proofs.PlaneLemmas.{ArePlanes, asked-none, asked-some, levels-are}

-- a piece with layers
some-part : TetrahedraPartsArePartOf → (whole block : ImageData) (p n ghosts : ℕ) → p < n → first_layer p n whole.extent < next_layer p n whole.extent
    → IsBlockOf whole (asked p n ghosts whole.extent) block
    → IsPartOf (tetrahedra_sheet whole) (own_tets n whole.extent p) ghosts (tets_part p n whole.extent block)
some-part parts whole block p n ghosts less some is =
    let b = whole.extent in
    let same = asked-some p n ghosts b some in
    let restricted : IsRestricted whole (seen_planes p n ghosts b) block = subst (λ e. IsRestricted whole e block) same is.same in
    let within = owns_within p n b less in
    let seen : ArePlanes b block.extent = record {
      low = first_seen p n ghosts b;
      high = last_seen p n ghosts b;
      order = omega (arith, within.0, within.1);
      within = omega arith;
      is = restricted.extent;
    } in
    let levels : piece_levels p n ghosts b ≡ block_levels p n b block.extent = sym (levels-are p n b block.extent seen) in
    subst (λ ls. IsPartOf (tetrahedra_sheet whole) (own_tets n b p) ghosts (record { sheet = shifted_sheet (leaf_shift b block.extent) (tetrahedra_sheet block); levels = ls }))
    levels (parts whole block p n ghosts is.whole_is is.part_is less restricted)

-- how many tetrahedra a whole has
count-all : (whole : ImageData) → length (tetrahedra_sheet whole).cells ≡ layer_size whole.extent * cubes_z whole.extent
count-all whole =
    let b = whole.extent in
    length-map (tetrahedra_of b) _ ∙ length-tetrahedra_of b ∙ turned (cubes_x b) (cubes_y b) (cubes_z b)
  where
    turned : (x y z : ℕ) → 6 * (x * y * z) ≡ 6 * (x * y) * z
    turned x y z = omega arith

abbrev pub made : SheetData → List ℕ → PartSheetData
made s ls = record { sheet = s; levels = ls }

-- a piece without layers
no-part : (whole block : ImageData) (p n ghosts : ℕ) → p < n → next_layer p n whole.extent ≤ first_layer p n whole.extent
    → IsBlockOf whole (asked p n ghosts whole.extent) block
    → IsPartOf (tetrahedra_sheet whole) (own_tets n whole.extent p) ghosts (tets_part p n whole.extent block)
no-part whole block p n ghosts less none is =
    let b = whole.extent in
    let size = layer_size b in
    let first = first_layer p n b in
    let next = next_layer p n b in
    let within = owns_within p n b less in
    let one : next ≡ first = omega (arith, none, within.0) in
    let extent : block.extent ≡ planes 0 0 b = is.same.extent ∙ asked-none p n ghosts b none in
    let low : ArePlanes b block.extent = record { low = 0; high = 0; order = omega arith; within = omega arith; is = extent } in
    let cells = ap tetrahedra_of extent ∙ no-cubes b 0 in
    let most : size * first ≤ size * cubes_z b = mul-le size first size (cubes_z b) (omega arith) (omega (arith, within.0, within.1)) in
    subst (λ (k : ℕ). IsPartOf (tetrahedra_sheet whole) (own_range (size * cubes_z b) (size * first) (size * k)) ghosts (tets_part p n b block)) (sym one)
    (subst (λ (part : PartSheetData). IsPartOf (tetrahedra_sheet whole) (own_range (size * cubes_z b) (size * first) (size * first)) ghosts part)
    (sym (ap₂ made (none-there (leaf_shift b block.extent) block cells) (levels-are p n b block.extent low)))
    (none-part (tetrahedra_sheet whole) (size * cubes_z b) (size * first) ghosts (count-all whole) most))

pub tets_parts : TetrahedraPartsArePartOf → ShiftedIsSheet → TetrahedraAreSheet → TetsAreParts
tets_parts parts moved sheets whole block p n ghosts less is = record {
  whole_is = sheets whole is.whole_is;
  sheet_is = moved (leaf_shift whole.extent block.extent) (tetrahedra_sheet block) (sheets block is.part_is);
  part_is =
      ⊎_elim
      (λ some. some-part parts whole block p n ghosts less some is)
      (λ none. no-part whole block p n ghosts less none is)
      (cases_lt (first_layer p n whole.extent) (next_layer p n whole.extent));
}

pub share_out : SheetOwnsAreAll → LayersShareOut
share_out all whole n is some = record {
  matched = λ p l. refl;
  all = each;
}
  where
    each : (k : ℕ) (s : SheetData) → k < 1
        → AreAll (length (get_or (tetrahedra_sheet whole ∷ []) k s).cells) (map (λ p. get_or (by_layers whole.extent p n) k []) (range_with_len 0 n))
    each zero s l = all whole n is some
    each (suc k) s l = absurd (omega (arith, l))

-- ---- answers

pub one-piece : (s : SheetData) (own : List Bool) (ghosts : ℕ) (part : PartSheetData) → IsSheetPart s own ghosts part
    → IsPieceOf (s ∷ []) (own ∷ []) ghosts (part ∷ [])
one-piece s own ghosts part is = record { matched = refl; owned = refl; each = each }
  where
    each : (k : ℕ) (d : SheetData) (e : PartSheetData) → k < 1
        → IsSheetPart (get_or (s ∷ []) k d) (get_or (own ∷ []) k []) ghosts (get_or (part ∷ []) k e)
    each zero d e l = is
    each (suc k) d e l = absurd (omega (arith, l))

pub tets-answer : TetsAreParts → (p n ghosts : ℕ) (whole : Bounds) (block : ImageData) (items : List PartSheetData) → p < n
    → items ≡ tets_part p n whole block ∷ [] → (image : ImageData) → image.extent ≡ whole → IsBlockOf image (asked p n ghosts whole) block
    → IsPieceOf (tetrahedra_sheet image ∷ []) (by_layers whole p n) ghosts items
tets-answer parts p n ghosts whole block items less is image same of =
    subst (IsPieceOf (tetrahedra_sheet image ∷ []) (by_layers whole p n) ghosts) (sym is)
    (one-piece (tetrahedra_sheet image) (own_tets n whole p) ghosts (tets_part p n whole block)
    (subst (λ e. IsBlockOf image (asked p n ghosts e) block → IsSheetPart (tetrahedra_sheet image) (own_tets n e p) ghosts (tets_part p n e block)) same
    (parts image block p n ghosts less) of))
