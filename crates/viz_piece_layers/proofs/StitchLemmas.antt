-- The own cells of all pieces are all cells.
use Rattle.std.proofs.Common.{◌≡◌, ℕ, zero, suc, ◌+◌, ◌-◌, ◌<◌, ◌≤◌, Bool, true, false, true≢false, Option, Some, None, cond, leb, List, [], ◌∷◌, ◌++◌, get_or, map, refl, sym, ap, ap₂, ◌∙◌, arith}
use Rattle.std.specs.List.{Contains, flat_map, range_with_len}
use Rattle.std.proofs.lemmas.Bool.{le-leb, lt-leb, ne_eqb}
use Rattle.std.proofs.lemmas.Option.{none-some, same_Some}
use Rattle.std.proofs.lemmas.List.Elements.{Contains-get_or, All-map}
use Rattle.std.proofs.lemmas.List.Folds.{flat_map-map}
use Rattle.viz_kuhn.specs.Kuhn.{EdgesAreSteps, OnlyCorners}
use Rattle.viz_kuhn.specs.Cubes.{cubes_z}
use Rattle.viz_meaning.specs.Tetrahedra.{tetrahedra_sheet}
use Rattle.viz_meaning.specs.TetrahedraLaws.{TetrahedraAreSheet}
use Rattle.viz_parts.specs.Parts.{PartSheetData}
use Rattle.viz_parts.specs.Stitching.{own_items}
use Rattle.viz_sheet.specs.Sheet.{KeepPoints}
use Rattle.viz_sheet.proofs.MemberLemmas.{here, there}
use Rattle.viz_piece_layers.specs.Cells.{Cell}
use Rattle.viz_parts.specs.Seen.{Seen, seen_as, cell_if, level_if, cells_seen, levels_seen}
use Rattle.viz_piece_layers.specs.Layers.{distance, layered, layer_tets, level_of}
use Rattle.viz_piece_layers.specs.Pieces.{named, own_tets, seen_by}
use Rattle.viz_extent.specs.Slabs.{first_layer, next_layer}
use Rattle.viz_extent.specs.Slabs.{share_begin}
use Rattle.viz_piece_layers.specs.Sheets.{PiecesStitch, tetrahedra_part}
use Rattle.viz_parts.specs.Pieces.{IsPartOf}
use Rattle.viz_piece_layers.proofs.RangeLemmas.{flat-flat, flat-same, in_range, range-split}
use Rattle.viz_piece_layers.proofs.LayerLemmas.{by_layers}
use Rattle.viz_piece_layers.proofs.OwnLemmas.{cuts_rise, rise_far, whole_cut, zero_cut}
use Rattle.viz_piece_layers.proofs.PartLemmas.{only_middle}
use Rattle.viz_piece_layers.proofs.PieceLemmas.{named-in, owns_within, pieces_are_parts}
use Rattle.viz_piece_layers.proofs.SheetLemmas.{part_cells, parts_are, sheet-named}

-- ---- the cells of level 0 are the own ones

abbrev own_if : Bool → Cell → List Cell
own_if o c = cond o (c ∷ []) []

own-one : (c : Cell) (o : Bool) (l : Option ℕ) (cs : List Cell) (ls : List ℕ) → (l ≡ Some 0 → o ≡ true) → (o ≡ true → l ≡ Some 0)
    → own_items (cell_if c l ++ cs) (level_if l ++ ls) ≡ own_if o c ++ own_items cs ls
own-one c true None cs ls h k = absurd (none-some 0 (k refl))
own-one c false None cs ls h k = refl
own-one c true (Some zero) cs ls h k = refl
own-one c false (Some zero) cs ls h k = absurd (true≢false (sym (h refl)))
own-one c true (Some (suc l)) cs ls h k = absurd (omega (arith, same_Some (suc l) 0 (k refl)))
own-one c false (Some (suc l)) cs ls h k = ap (λ t. cond t (c ∷ own_items cs ls) (own_items cs ls)) (ne_eqb (suc l) 0 (λ e. omega (arith, e)))

own-seen : (seen : List Seen) → ((s : Seen) → Contains seen s → (s.level ≡ Some 0 → s.own ≡ true) × (s.own ≡ true → s.level ≡ Some 0))
    → own_items (cells_seen seen) (levels_seen seen) ≡ flat_map (λ s. own_if s.own s.cell) seen
own-seen [] h = refl
own-seen (s ∷ seen) h =
    let first = h s (here s seen) in
    own-one s.cell s.own s.level (cells_seen seen) (levels_seen seen) first.0 first.1
    ∙ ap (λ t. own_if s.own s.cell ++ t) (own-seen seen (λ t c. h t (there s seen t c)))

own_all : (l : Option ℕ) (xs : List Cell) → flat_map (λ (s : Seen). own_if s.own s.cell) (map (seen_as true l) xs) ≡ xs
own_all l [] = refl
own_all l (x ∷ xs) = ap (λ r. x ∷ r) (own_all l xs)

own_none : (l : Option ℕ) (xs : List Cell) → flat_map (λ (s : Seen). own_if s.own s.cell) (map (seen_as false l) xs) ≡ []
own_none l [] = refl
own_none l (x ∷ xs) = own_none l xs

own-layers : (cells : ℕ → List Cell) (count low high ghosts : ℕ) → low ≤ high → high ≤ count
    → flat_map (λ s. own_if s.own s.cell) (layered cells count low high ghosts) ≡ flat_map cells (range_with_len low (high - low))
own-layers cells count low high ghosts o m =
    flat-flat (λ (s : Seen). own_if s.own s.cell) (λ z. map (seen_as (own z) (level z)) (cells z)) (range_with_len 0 count)
    ∙ only_middle (λ z. shown z (own z)) cells count low high o m
    (λ z b. ap (shown z) (lt-leb (distance low high z) 0 (omega (arith, b))) ∙ own_none (level z) (cells z))
    (λ z a b. ap (shown z) (le-leb (distance low high z) 0 (omega (arith, a, b))) ∙ own_all (level z) (cells z))
    (λ z a b. ap (shown z) (lt-leb (distance low high z) 0 (omega (arith, a))) ∙ own_none (level z) (cells z))
  where
    own : ℕ → Bool
    own z = leb (distance low high z) 0

    level : ℕ → Option ℕ
    level z = level_of ghosts (distance low high z)

    shown : ℕ → Bool → List Cell
    shown z b = flat_map (λ (s : Seen). own_if s.own s.cell) (map (seen_as b (level z)) (cells z))

-- ---- ranges from cut to cut

join-ranges : (cut : ℕ → ℕ) → ((p : ℕ) → cut p ≤ cut (p + 1)) → (a k : ℕ) → flat_map (λ p. range_with_len (cut p) (cut (p + 1) - cut p)) (range_with_len a k) ≡ range_with_len (cut a) (cut (a + k) - cut a)
join-ranges cut r a zero = ap (range_with_len (cut a)) {x = 0} {y = cut (a + 0) - cut a} (omega (arith, ap cut {x = a + 0} {y = a} (omega arith)))
join-ranges cut r a (suc k) =
    let same : cut (a + 1 + k) ≡ cut (a + suc k) = ap cut {x = a + 1 + k} {y = a + suc k} (omega arith) in
    let up : cut (a + 1) ≤ cut (a + 1 + k) = rise_far cut r (a + 1) k in
    ap (λ t. range_with_len (cut a) (cut (a + 1) - cut a) ++ t) (join-ranges cut r (a + 1) k)
    ∙ ap (λ f. range_with_len (cut a) (cut (a + 1) - cut a) ++ range_with_len f (cut (a + 1 + k) - cut (a + 1))) {x = cut (a + 1)} {y = cut a + (cut (a + 1) - cut a)} (omega (arith, r a))
    ∙ sym (range-split (cut a) (cut (a + 1) - cut a) (cut (a + 1 + k) - cut (a + 1)))
    ∙ ap (range_with_len (cut a)) {x = cut (a + 1) - cut a + (cut (a + 1 + k) - cut (a + 1))} {y = cut (a + suc k) - cut a} (omega (arith, r a, up, same))

join-floors : (n count : ℕ) → 0 < n → flat_map (λ p. range_with_len (share_begin n count p) (share_begin n count (p + 1) - share_begin n count p)) (range_with_len 0 n) ≡ range_with_len 0 (count - 0)
join-floors n count some =
    join-ranges (share_begin n count) (λ p. cuts_rise n count p (p + 1) some (omega arith)) 0 n
    ∙ ap (λ f. range_with_len f (share_begin n count (0 + n) - f)) (zero_cut n count some)
    ∙ ap (λ k. range_with_len 0 (k - 0)) (ap (share_begin n count) {x = 0 + n} {y = n} (omega arith) ∙ whole_cut n count some)

-- ---- all pieces

pub pieces_stitch : OnlyCorners → EdgesAreSteps → TetrahedraAreSheet → PiecesStitch
pieces_stitch only edges sheets whole images n ghosts is some each = record {
  cells =
      flat_map-map own part (range_with_len 0 n)
      ∙ flat-same (λ p. own (part p)) (λ p. flat_map cells (range_with_len (cut p) (cut (p + 1) - cut p))) (range_with_len 0 n)
      (λ p c. own-cells p (omega (arith, (in_range 0 n p c).1)))
      ∙ sym (flat-flat cells (λ p. range_with_len (cut p) (cut (p + 1) - cut p)) (range_with_len 0 n))
      ∙ ap (flat_map cells) (join-floors n (cubes_z whole.extent) some)
      ∙ named-in whole.extent 0 (cubes_z whole.extent)
      ∙ ap named (sym (by_layers whole.extent))
      ∙ sym (sheet-named only edges whole);
  points =
      All-map (λ (p : PartSheetData). KeepPoints p.sheet.names p.sheet.points (tetrahedra_sheet whole).names (tetrahedra_sheet whole).points) part (range_with_len 0 n)
      (λ k d l.
      let p = get_or (range_with_len 0 n) k d in
      (is_part p (omega (arith, (in_range 0 n p (Contains-get_or (range_with_len 0 n) k d l)).1))).points);
}
  where
    part : ℕ → PartSheetData
    part p = tetrahedra_part p n ghosts whole (images p)

    own : PartSheetData → List Cell
    own q = own_items q.sheet.cells q.levels

    cells : ℕ → List Cell
    cells z = named (layer_tets whole.extent z)

    cut : ℕ → ℕ
    cut p = share_begin n (cubes_z whole.extent) p

    is_part : (p : ℕ) → p < n → IsPartOf (tetrahedra_sheet whole) (own_tets n whole.extent p) ghosts (part p)
    is_part p less = parts_are only edges sheets whole (images p) p n ghosts is (each p less).0 less (each p less).1

    own-cells : (p : ℕ) → p < n → own (part p) ≡ flat_map cells (range_with_len (cut p) (cut (p + 1) - cut p))
    own-cells p less =
        let piece = pieces_are_parts only whole.extent p n ghosts is.extent less in
        let within = owns_within p n whole.extent less in
        ap₂ own_items (sym (part_cells only edges whole (images p) p n ghosts is less (each p less).1)) (sym piece.levels)
        ∙ own-seen (seen_by p n ghosts whole.extent) piece.rule.own
        ∙ own-layers cells (cubes_z whole.extent) (first_layer p n whole.extent) (next_layer p n whole.extent) ghosts within.0 within.1
