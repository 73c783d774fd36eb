-- No number of a section is wide where none is in any piece.
use Rattle.std.proofs.Common.{◌≡◌, ℕ, zero, suc, ◌+◌, ◌<◌, ⊎_elim, List, [], ◌∷◌, get_or, map, refl, sym, ap, subst, ◌∙◌, arith}
use Rattle.std.specs.List.{All}
use Rattle.std.proofs.lemmas.Bool.{cases_lt}
use Rattle.std.proofs.lemmas.List.{get_or-map, length-map}
use Rattle.std.proofs.lemmas.List.Elements.{All-map}
use Rattle.viz_dataset.specs.Images.{ImageData}
use Rattle.viz_fraction.specs.declared.forms.Form.{Form}
use Rattle.viz_meaning.specs.Narrow.{AreNarrowSections, IsNarrowEdge, IsNarrowName, IsNarrowSection}
use Rattle.viz_meaning.specs.Names.{greater_end, lesser_end, names_of}
use Rattle.viz_meaning.specs.Section.{point_of, section_cells}
use Rattle.viz_meaning.specs.Tetrahedra.{tetrahedra_sheet}
use Rattle.viz_meaning.specs.TetrahedraLaws.{TetrahedraHaveLeaves}
use Rattle.viz_parts.specs.Parts.{PartSheetData}
use Rattle.viz_parts.specs.Pieces.{Division, IsBlockOf, IsPieceOf, IsSheetPart}
use Rattle.viz_piece_divisions.specs.Narrow.{
  MeshIsNarrow,
  PiecesAreNarrow,
  sheets_of_parts,
}
use Rattle.viz_piece_divisions.specs.Pieces.{HasLevel}
use Rattle.viz_piece_layers.specs.Pieces.{leaf_shift}
use Rattle.viz_piece_layers.specs.Sheets.{shifted_sheet}
use Rattle.viz_piece_section.specs.Shifted.{SectionsShift}
use Rattle.viz_piece_section.proofs.ShiftLemmas.{greater, lesser, point}
use Rattle.viz_piece_tets.specs.Asked.{asked}
use Rattle.viz_piece_tets.specs.Tets.{LayersShareOut, TetsAreParts, by_layers, tets_part}
use Rattle.viz_sheet.specs.Sheet.{SheetData}
use Rattle.viz_node_narrow.specs.Pieces.{
  AreNarrowImage,
  IsNarrowPiece,
  IsNarrowSlab,
  NarrowByPieces,
  NarrowBySlabs,
  SlabsAreNarrow,
}

-- ---- meshes

-- a piece for each number, also past the last
record Picked (forms : List Form) (sheets : List SheetData) (division : Division) (p n : ℕ)
    : Type 0 where
  ghosts : ℕ
  parts : List PartSheetData
  is : p < n → IsPieceOf sheets (division p n) ghosts parts
  narrow : p < n → AreNarrowSections forms (sheets_of_parts parts)

picked : (forms : List Form) (sheets : List SheetData) (division : Division) (n : ℕ)
    → ((p : ℕ) → p < n → IsNarrowPiece forms sheets division p n) → (p : ℕ)
    → Picked forms sheets division p n
picked forms sheets division n h p =
    ⊎_elim
    (λ l. let q = h p l in
    record { ghosts = q.ghosts; parts = q.parts; is = λ l. q.is; narrow = λ l. q.narrow })
    (λ past. record {
      ghosts = 0;
      parts = [];
      is = λ l. absurd (omega (arith, l, past));
      narrow = λ l. absurd (omega (arith, l, past));
    })
    (cases_lt p n)

pub by_pieces : MeshIsNarrow → NarrowByPieces
by_pieces law forms sheets division n some levels shared h =
    let pick = picked forms sheets division n h in
    law forms sheets division n (λ p. (pick p).parts) levels
    (record {
      some = some;
      shared = shared;
      ghosts = λ p. (pick p).ghosts;
      each = λ p l. (pick p).is l;
      narrow = λ p l. (pick p).narrow l;
    })

-- ---- sheets with other leaves

abbrev moved : ℕ → List ℕ → List ℕ
moved by n = map (λ leaf. leaf + by) n

module _ (by : ℕ) (f : Form) (s : SheetData) where
  -- the ends of a name lie at the same points
  low : (n : List ℕ)
      → point_of (shifted_sheet by s) (lesser_end (moved by n)) ≡ point_of s (lesser_end n)
  low n = ap (point_of (shifted_sheet by s)) (lesser by n) ∙ point by s (lesser_end n)

  high : (n : List ℕ)
      → point_of (shifted_sheet by s) (greater_end (moved by n)) ≡ point_of s (greater_end n)
  high n = ap (point_of (shifted_sheet by s)) (greater by n) ∙ point by s (greater_end n)

  name_to : (n : List ℕ) → IsNarrowName f s n → IsNarrowName f (shifted_sheet by s) (moved by n)
  name_to n h =
      subst (λ q. IsNarrowEdge f q (point_of (shifted_sheet by s) (greater_end (moved by n))))
      (sym (low n)) (subst (IsNarrowEdge f (point_of s (lesser_end n))) (sym (high n)) h)

  name_from : (n : List ℕ) → IsNarrowName f (shifted_sheet by s) (moved by n)
      → IsNarrowName f s n
  name_from n h =
      subst (λ q. IsNarrowEdge f q (point_of s (greater_end n))) (low n)
      (subst (IsNarrowEdge f (point_of (shifted_sheet by s) (lesser_end (moved by n)))) (high n) h)

  abbrev names : List (List ℕ)
  names = names_of (section_cells f s)

  module _ (shift : SectionsShift) where
    shifted_names : names_of (section_cells f (shifted_sheet by s)) ≡ map (moved by) names
    shifted_names = ap (λ (z : SheetData). z.names) (shift by f s)

    section_to : IsNarrowSection f s → IsNarrowSection f (shifted_sheet by s)
    section_to h = record {
      values = h.values;
      crossings =
          subst (All (IsNarrowName f (shifted_sheet by s))) (sym shifted_names)
          (All-map (IsNarrowName f (shifted_sheet by s)) (moved by) names
          (λ k d l. name_to (get_or names k d) (h.crossings k d l)));
    }

    section_from : IsNarrowSection f (shifted_sheet by s) → IsNarrowSection f s
    section_from h = record { values = h.values; crossings = crossings }
      where
        all : All (IsNarrowName f (shifted_sheet by s)) (map (moved by) names)
        all = subst (All (IsNarrowName f (shifted_sheet by s))) shifted_names h.crossings

        crossings : All (IsNarrowName f s) names
        crossings k d l =
            name_from (get_or names k d)
            (subst (IsNarrowName f (shifted_sheet by s))
            (get_or-map (moved by) names k d (moved by d) l)
            (all k (moved by d) (omega (arith, l, length-map names (moved by)))))

-- what holds of one sheet by each form
one_sheet : (forms : List Form) (s : SheetData) → All (λ f. IsNarrowSection f s) forms
    → AreNarrowSections forms (s ∷ [])
one_sheet forms s h = record { each = λ k d l. each (get_or forms k d) (h k d l) }
  where
    each : (f : Form) → IsNarrowSection f s → All (IsNarrowSection f) (s ∷ [])
    each f n zero d l = n
    each f n (suc k) d l = absurd (omega (arith, l))

of_sheet : (forms : List Form) (s : SheetData) → AreNarrowSections forms (s ∷ [])
    → All (λ f. IsNarrowSection f s) forms
of_sheet forms s h k d l = h.each k d l 0 s (omega arith)

-- ---- images

module _ (shift : SectionsShift) (tets : TetsAreParts) (leaves : TetrahedraHaveLeaves) where
  leveled : (image : ImageData) → All HasLevel (tetrahedra_sheet image ∷ [])
  leveled image zero d l = record { size = 1; names = leaves image }
  leveled image (suc k) d l = absurd (omega (arith, l))

  abbrev slab_part : (image block : ImageData) (p n : ℕ) → PartSheetData
  slab_part image block p n = tets_part p n image.extent block

  slab_piece : (image block : ImageData) (p n ghosts : ℕ) → p < n
      → IsBlockOf image (asked p n ghosts image.extent) block
      → IsPieceOf (tetrahedra_sheet image ∷ []) (by_layers image.extent p n) ghosts
      (slab_part image block p n ∷ [])
  slab_piece image block p n ghosts less is = record { matched = refl; owned = refl; each = each }
    where
      each : (k : ℕ) (s : SheetData) (q : PartSheetData) → k < 1
          → IsSheetPart (get_or (tetrahedra_sheet image ∷ []) k s)
          (get_or (by_layers image.extent p n) k []) ghosts
          (get_or (slab_part image block p n ∷ []) k q)
      each zero s q l = tets image block p n ghosts less is
      each (suc k) s q l = absurd (omega (arith, l))

  -- the sections of a block have the numbers that they have in its piece
  to_piece : (forms : List Form) (image block : ImageData) (p n : ℕ) → AreNarrowImage forms block
      → AreNarrowSections forms (sheets_of_parts (slab_part image block p n ∷ []))
  to_piece forms image block p n h =
      let by = leaf_shift image.extent block.extent in
      let t = tetrahedra_sheet block in
      one_sheet forms (shifted_sheet by t)
      (λ k d l. section_to by (get_or forms k d) t shift (of_sheet forms t h k d l))

  from_piece : (forms : List Form) (image block : ImageData) (p n : ℕ)
      → AreNarrowSections forms (sheets_of_parts (slab_part image block p n ∷ []))
      → AreNarrowImage forms block
  from_piece forms image block p n h =
      let by = leaf_shift image.extent block.extent in
      let t = tetrahedra_sheet block in
      one_sheet forms t
      (λ k d l. section_from by (get_or forms k d) t shift
      (of_sheet forms (shifted_sheet by t) h k d l))

  pub by_slabs : MeshIsNarrow → LayersShareOut → NarrowBySlabs
  by_slabs law shares forms image n valid some h =
      by_pieces law forms (tetrahedra_sheet image ∷ []) (by_layers image.extent) n some
      (leveled image) (shares image n valid some) (λ p less. piece p (h p less) less)
    where
      piece : (p : ℕ) → IsNarrowSlab forms image p n → p < n
          → IsNarrowPiece forms (tetrahedra_sheet image ∷ []) (by_layers image.extent) p n
      piece p q less = record {
        ghosts = q.ghosts;
        parts = slab_part image q.block p n ∷ [];
        is = slab_piece image q.block p n q.ghosts less q.is;
        narrow = to_piece forms image q.block p n q.narrow;
      }

  pub slabs_narrow : PiecesAreNarrow → SlabsAreNarrow
  slabs_narrow law forms image block p n ghosts less is h =
      from_piece forms image block p n
      (law forms (tetrahedra_sheet image ∷ []) (by_layers image.extent p n) ghosts
      (slab_part image block p n ∷ []) (leveled image)
      (slab_piece image block p n ghosts less is) h)
