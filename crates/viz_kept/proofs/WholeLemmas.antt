-- A whole dataset is a part of itself.
use Rattle.std.proofs.Common.{◌≡◌, ℕ, ◌<◌, Global, true, Some, Vec, List, [], ◌∷◌, length, map, get_or, replicate, refl, sym, ap, subst, ◌∙◌, arith}
use Rattle.std.specs.List.{Contains}
use Rattle.std.proofs.lemmas.List.{get_or-map, length-map}
use Rattle.std.proofs.lemmas.List.Elements.{All-get_or}
use Rattle.std.proofs.lemmas.Option.{same_Some}
use Rattle.viz_dataset.specs.Images.{ImageData, IsImage}
use Rattle.viz_dataset.specs.declared.dataset.Dataset.TheVariants as dataset
use Rattle.viz_sheet.specs.Sheet.{SheetData, IsSheet}
use Rattle.viz_parts.specs.Parts.{PartSheetData}
use Rattle.viz_parts.specs.Pieces.{IsSheetPart, IsPieceOf}
use Rattle.viz_parts.specs.Seen.{Seen, AreSeen, seen_as, cells_seen, levels_seen, owned_seen, whole_seen}
use Rattle.viz_parts.specs.declared.request.Part.TheVariants as part
use Rattle.viz_parts.specs.declared.request.Request.TheVariants.{Block, Piece}
use Rattle.viz_kept.specs.Steps.{own_part, AreSheets}
use Rattle.viz_kept.specs.Whole.{IsWholePart}
use Rattle.viz_node_division.specs.Laws.{DatasetsAreDivided, OnlyPieceOwnsAll}
use Rattle.viz_node_division.specs.Shares.{all_own}
use Rattle.viz_kept.proofs.DividedLemmas.{whole_division}

-- ---- a sheet as a part of own cells alone

-- all cells, each the piece's own
abbrev pub all_seen : List (List (List ℕ)) → List Seen
all_seen cells = map (seen_as true (Some 0)) cells

covered : (cells : List (List (List ℕ))) → whole_seen (all_seen cells) ≡ cells
covered [] = refl
covered (c ∷ cells) = ap (λ r. c ∷ r) (covered cells)

owned : (cells : List (List (List ℕ))) → owned_seen (all_seen cells) ≡ replicate (length cells) true
owned [] = refl
owned (c ∷ cells) = ap (λ r. true ∷ r) (owned cells)

cells_are : (cells : List (List (List ℕ))) → cells_seen (all_seen cells) ≡ cells
cells_are [] = refl
cells_are (c ∷ cells) = ap (λ r. c ∷ r) (cells_are cells)

levels_are : (cells : List (List (List ℕ))) → levels_seen (all_seen cells) ≡ replicate (length cells) 0
levels_are [] = refl
levels_are (c ∷ cells) = ap (λ r. 0 ∷ r) (levels_are cells)

-- each that is seen is such a cell
module _ (cells : List (List (List ℕ))) (s : Seen) (c : Contains (all_seen cells) s) where
  seen_is : seen_as true (Some 0) (get_or cells c.0 []) ≡ s
  seen_is =
      let below : c.0 < length cells = subst (λ n. c.0 < n) (length-map cells (seen_as true (Some 0))) c.1 in
      sym (get_or-map (seen_as true (Some 0)) cells c.0 [] s below) ∙ c.2

  own_is : s.own ≡ true
  own_is = sym (ap (λ t. t.own) seen_is)

  level_is : s.level ≡ Some 0
  level_is = sym (ap (λ t. t.level) seen_is)

all_are_seen : (cells : List (List (List ℕ))) → AreSeen 0 (all_seen cells)
all_are_seen cells = record {
  own = λ s c. (λ level. own_is cells s c, λ own. level_is cells s c);
  most = λ s l c is. (let same : l ≡ 0 = same_Some l 0 (sym is ∙ level_is cells s c) in omega (arith, same));
  near = λ s t l c d is below meet. absurd (omega (arith, below));
}

whole_part_of : (s : SheetData) → IsSheet s → IsSheetPart s (all_own s) 0 (own_part s)
whole_part_of s rule = record {
  whole_is = rule;
  sheet_is = rule;
  part_is = record {
    seen = all_seen s.cells;
    covered = covered s.cells;
    owned = owned s.cells;
    rule = all_are_seen s.cells;
    cells = cells_are s.cells;
    levels = levels_are s.cells;
    points = λ k d below. (k, below, refl, refl);
  };
}

-- ---- a mesh, and an image

whole_piece : (sheets : List SheetData) → AreSheets sheets → IsPieceOf sheets (map all_own sheets) 0 (map own_part sheets)
whole_piece sheets rule = record {
  matched = length-map sheets own_part;
  owned = length-map sheets all_own;
  each = λ k s p below.
      let sheet = get_or sheets k s in
      let own = get_or-map all_own sheets k s [] below in
      let part = get_or-map own_part sheets k s p below in
      subst (λ o. IsSheetPart sheet o 0 (get_or (map own_part sheets) k p)) (sym own)
      (subst (IsSheetPart sheet (all_own sheet) 0) (sym part) (whole_part_of sheet (All-get_or IsSheet sheets k s below rule.each)));
}

pub mesh_is_whole : DatasetsAreDivided → OnlyPieceOwnsAll
    → (sheets : List SheetData) (parts : Vec PartSheetData Global)
    → AreSheets sheets → parts.items ≡ map own_part sheets
    → IsWholePart (dataset.Mesh sheets) (Piece 0 1 0) (part.Mesh parts)
mesh_is_whole some only sheets parts rule is = record {
  each = λ cone given.
      let d = whole_division some only cone (dataset.Mesh sheets) given in
      let piece = subst (λ owns. IsPieceOf sheets owns 0 (map own_part sheets)) (sym (d.1.only sheets refl)) (whole_piece sheets rule) in
      record {
        whole = dataset.Mesh sheets;
        given = given;
        one = record { division = d.0; divided = d.1.divided; answers = (omega arith, subst (IsPieceOf sheets (d.0 0 1) 0) (sym is) piece) };
      };
}

pub image_is_whole : DatasetsAreDivided → OnlyPieceOwnsAll
    → (image : ImageData) → IsImage image
    → IsWholePart (dataset.Image image) (Block image.extent) (part.Image image)
image_is_whole some only image rule = record {
  each = λ cone given.
      let d = whole_division some only cone (dataset.Image image) given in
      record {
        whole = dataset.Image image;
        given = given;
        one = record {
          division = d.0;
          divided = d.1.divided;
          answers = record {
            whole_is = rule;
            part_is = rule;
            within = record {
              x = record { first = omega arith; last = omega arith };
              y = record { first = omega arith; last = omega arith };
              z = record { first = omega arith; last = omega arith };
            };
            same = record { extent = refl; origin = refl; spacing = refl; kind = refl; values = λ i j k has. refl };
          };
        };
      };
}
