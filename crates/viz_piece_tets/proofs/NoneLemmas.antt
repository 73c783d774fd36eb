-- A piece without layers has no tetrahedra, and that is a part.
use Rattle.std.proofs.Common.{◌≡◌, ℕ, zero, suc, ◌+◌, ◌-◌, ◌≤◌, true, false, Some, None, List, [], ◌∷◌, ◌++◌, length, map, replicate, refl, sym, ap, ap₂, ◌∙◌, arith}
use Rattle.std.specs.List.{flat_map, range_with_len}
use Rattle.std.proofs.lemmas.List.{replicate-append-replicate}
use Rattle.viz_dataset.specs.Images.{ImageData}
use Rattle.viz_extent.specs.Extent.{Bounds, count_of}
use Rattle.viz_extent.specs.Slabs.{planes}
use Rattle.viz_fraction.specs.Points.{Point}
use Rattle.viz_kuhn.specs.Cubes.{cubes_z, lowest_in_layer, six_at, tetrahedra_of}
use Rattle.viz_meaning.specs.Tetrahedra.{leaf_points, tetrahedra_sheet}
use Rattle.viz_meaning.proofs.ListLemmas.{contains-unmap}
use Rattle.viz_parts.specs.Pieces.{IsPartOf, own_range}
use Rattle.viz_parts.specs.Seen.{AreSeen, Seen, cell_if, level_if, seen_as}
use Rattle.viz_piece_layers.specs.Cells.{Cell}
use Rattle.viz_piece_layers.specs.Sheets.{shifted_sheet}
use Rattle.viz_sheet.specs.Kept.{is_used, kept, sheet_with}
use Rattle.viz_sheet.specs.Ranked.{leaf_names}
use Rattle.viz_sheet.specs.Sheet.{SheetData}

-- ---- no tetrahedra

pub no-cubes : (b : Bounds) (low : ℕ) → tetrahedra_of (planes low low b) ≡ []
no-cubes b low =
    ap (λ k. flat_map (six_at (planes low low b)) (flat_map (lowest_in_layer (planes low low b)) (range_with_len (b.z0 + low) k)))
    {x = cubes_z (planes low low b)} {y = 0} (omega arith)

unmarked : {X : Type 0} (xs : List X) (a n : ℕ) → kept (map (is_used []) (range_with_len a n)) xs ≡ []
unmarked xs a zero = refl
unmarked [] a (suc n) = refl
unmarked (x ∷ xs) a (suc n) = unmarked xs (a + 1) n

-- the sheet of no cells
pub no_sheet : SheetData
no_sheet = record { names = []; points = []; cells = [] }

abbrev sheet : List (List ℕ) → List Point → List (List (List ℕ)) → SheetData
sheet names points cells = record { names = names; points = points; cells = cells }

with-none : (names : List (List ℕ)) (points : List Point) → sheet_with names points [] ≡ sheet [] [] []
with-none names points = ap₂ (λ ns ps. sheet ns ps []) (unmarked names 0 (length names)) (unmarked points 0 (length names))

pub none-there : (by : ℕ) (block : ImageData) → tetrahedra_of block.extent ≡ [] → shifted_sheet by (tetrahedra_sheet block) ≡ sheet [] [] []
none-there by block e =
    ap (λ cells. shifted_sheet by (sheet_with (leaf_names (count_of block.extent)) (leaf_points block) cells)) e
    ∙ ap (shifted_sheet by) (with-none (leaf_names (count_of block.extent)) (leaf_points block))

-- ---- none of the cells is a part

abbrev unseen : List Cell → List Seen
unseen cells = map (seen_as false None) cells

covers : (cells : List Cell) → map (λ (s : Seen). s.cell) (unseen cells) ≡ cells
covers [] = refl
covers (c ∷ cs) = ap (λ t. c ∷ t) (covers cs)

owns : (cells : List Cell) → map (λ (s : Seen). s.own) (unseen cells) ≡ replicate (length cells) false
owns [] = refl
owns (c ∷ cs) = ap (λ t. false ∷ t) (owns cs)

none-seen : (cells : List Cell) → flat_map (λ (s : Seen). cell_if s.cell s.level) (unseen cells) ≡ []
none-seen [] = refl
none-seen (c ∷ cs) = none-seen cs

no-levels : (cells : List Cell) → flat_map (λ (s : Seen). level_if s.level) (unseen cells) ≡ []
no-levels [] = refl
no-levels (c ∷ cs) = no-levels cs

some-none : {A : Type 0} (l : ℕ) → None ≡ Some l → A
some-none l e = absurd (apart e)
  where
    apart : None ≡ Some l → ⊥
    apart e = cc

rule : (ghosts : ℕ) (cells : List Cell) → AreSeen ghosts (unseen cells)
rule ghosts cells = record {
  own = λ s c.
      let at = contains-unmap (seen_as false None) cells s c in (
        λ e. some-none 0 (ap (λ (t : Seen). t.level) at.2 ∙ e),
        λ e. absurd (false-true (ap (λ (t : Seen). t.own) at.2 ∙ e)),
      );
  most = λ s l c e. let at = contains-unmap (seen_as false None) cells s c in some-none l (ap (λ (t : Seen). t.level) at.2 ∙ e);
  near = λ s t l c d e k m. let at = contains-unmap (seen_as false None) cells s c in some-none l (ap (λ (q : Seen). q.level) at.2 ∙ e);
}
  where
    false-true : false ≡ true → ⊥
    false-true e = cc

own-none : (count at : ℕ) → at ≤ count → own_range count at at ≡ replicate count false
own-none count at l =
    ap (λ k. replicate at false ++ (replicate k true ++ replicate (count - at) false)) {x = at - at} {y = 0} (omega arith)
    ∙ replicate-append-replicate at (count - at) false
    ∙ ap (λ k. replicate k false) {x = at + (count - at)} {y = count} (omega (arith, l))

pub none-part : (whole : SheetData) (count at ghosts : ℕ) → length whole.cells ≡ count → at ≤ count
    → IsPartOf whole (own_range count at at) ghosts (record { sheet = sheet [] [] []; levels = [] })
none-part whole count at ghosts all l = record {
  seen = unseen whole.cells;
  covered = covers whole.cells;
  owned = owns whole.cells ∙ ap (λ k. replicate k false) all ∙ sym (own-none count at l);
  rule = rule ghosts whole.cells;
  cells = none-seen whole.cells;
  levels = no-levels whole.cells;
  points = λ k d l. absurd (omega (arith, l));
}
