-- All pieces of a mesh, sheet by sheet.
use Rattle.std.proofs.Common.{◌≡◌, ℕ, ◌+◌, ◌-◌, ◌<◌, Bool, List, [], ◌∷◌, ◌++◌, length, get_or, map, sym, ap, subst, ◌∙◌, ⊎_elim, arith}
use Rattle.std.specs.List.{All, range_with_len}
use Rattle.std.proofs.lemmas.Bool.{cases_lt}
use Rattle.std.proofs.lemmas.List.{same_lists, get_or-map, get_or_append_left, get_or_push, length-map, length_push}
use Rattle.viz_parts.specs.Parts.{PartSheetData}
use Rattle.viz_parts.specs.Pieces.{AreAll, IsMeshPiece, IsPieceOf, IsSheetPart}
use Rattle.viz_parts.specs.Stitching.{ArePiecesOf}
use Rattle.viz_parts.specs.declared.request.Part.{Part}
use Rattle.viz_parts.specs.declared.request.Part.TheVariants.{Image, Mesh}
use Rattle.viz_sheet.specs.Sheet.{SheetData}
use Rattle.viz_piece_stitch.specs.Steps.Columns.{AreJoinedSheets, AreSheets, IsJoinedSheet, IsMeshOf, no_sheet, sheet_at, sheets_at, sheets_in}
use Rattle.viz_piece_stitch.specs.Steps.Wholes.{ArePieces}
use Rattle.viz_piece_stitch.proofs.WholeLemmas.{joined_is_whole, only_is_whole}

-- a piece, by its sheets
pub as_piece : (sheets : List SheetData) (owns : List (List Bool)) (ghosts : ℕ) (part : Part) → IsMeshPiece sheets owns ghosts part → IsPieceOf sheets owns ghosts (sheets_in part)
as_piece sheets owns ghosts (Image image) h = absurd h
as_piece sheets owns ghosts (Mesh parts) h = h

pub a_mesh : (sheets : List SheetData) (owns : List (List Bool)) (ghosts : ℕ) (part : Part) → IsMeshPiece sheets owns ghosts part → IsMeshOf (length sheets) part
a_mesh sheets owns ghosts (Image image) h = absurd h
a_mesh sheets owns ghosts (Mesh parts) h = record { mesh = tt; count_is = h.matched }

-- the first of some
some_part : (parts : List Part) → 0 < length parts → Part
some_part [] h = absurd (omega (arith, h))
some_part (p ∷ ps) h = p

module _ (sheets : List SheetData) (parts : List Part) (h : ArePiecesOf sheets parts) where
  -- the part of a sheet in a piece
  pub in_column : (k : ℕ) (s : SheetData) (e d : PartSheetData) → k < length sheets → (p : ℕ) → p < length parts
      → IsSheetPart (get_or sheets k s) (get_or (h.division p (length parts)) k []) (h.ghosts p) (get_or (map (λ part. get_or (sheets_in part) k e) parts) p d)
  in_column k s e d l p b =
      let part = get_or parts p (some_part parts h.some) in
      subst (λ (x : PartSheetData). IsSheetPart (get_or sheets k s) (get_or (h.division p (length parts)) k []) (h.ghosts p) x)
      (sym (get_or-map (λ (q : Part). get_or (sheets_in q) k e) parts p (some_part parts h.some) d b))
      ((as_piece sheets (h.division p (length parts)) (h.ghosts p) part (h.each p (some_part parts h.some) b)).each k s e l)

  -- each piece has as many sheets
  pub of_count : All (IsMeshOf (length sheets)) parts
  of_count p d b = a_mesh sheets (h.division p (length parts)) (h.ghosts p) (get_or parts p d) (h.each p d b)

  same_sheet : (k : ℕ) (s t : SheetData) → k < length sheets → IsJoinedSheet (sheets_at k parts) t → t ≡ get_or sheets k s
  same_sheet k s t l joined =
      let column = sheets_at k parts in
      let long : length column ≡ length parts = length-map parts (sheet_at k) in
      let whole = get_or sheets k s in
      let owns = λ (p : ℕ). get_or (h.division p (length parts)) k [] in
      let all : AreAll (length whole.cells) (map owns (range_with_len 0 (length column))) =
      subst (λ n. AreAll (length whole.cells) (map owns (range_with_len 0 n))) (sym long) (h.shared.all k s l) in
      let part = λ (p : ℕ) (d : PartSheetData) (b : p < length column). in_column k s no_sheet d l p (omega (arith, b, long)) in
      joined_is_whole whole t owns h.ghosts column (part 0 no_sheet (omega (arith, long, h.some))).whole_is joined.valid all part joined.cells joined.points

  -- what is joined is the mesh
  pub joined-mesh : (results : List SheetData) → AreJoinedSheets (length sheets) parts results → results ≡ sheets
  joined-mesh results j =
      same_lists results sheets j.size (λ k d l. let b : k < length sheets = omega (arith, l, j.size) in same_sheet k d (get_or results k d) b (j.each k d b))

  -- the same, where the number of sheets is equal by other ways
  pub joined-all : (count : ℕ) (results : List SheetData) → count ≡ length sheets → AreJoinedSheets count parts results → results ≡ sheets
  joined-all count results e j = joined-mesh results (subst (λ n. AreJoinedSheets n parts results) e j)

  -- the only piece is the mesh
  pub only-mesh : (part : Part) → length parts ≡ 1 → get_or parts 0 part ≡ part → map (λ p. p.sheet) (sheets_in part) ≡ sheets
  only-mesh part one is =
      let piece : IsPieceOf sheets (h.division 0 (length parts)) (h.ghosts 0) (sheets_in part) =
      as_piece sheets (h.division 0 (length parts)) (h.ghosts 0) part (subst (IsMeshPiece sheets (h.division 0 (length parts)) (h.ghosts 0)) is (h.each 0 part (omega (arith, one)))) in
      let long : length (map (λ (p : PartSheetData). p.sheet) (sheets_in part)) ≡ length sheets = length-map (sheets_in part) (λ (p : PartSheetData). p.sheet) ∙ piece.matched in
      same_lists (map (λ (p : PartSheetData). p.sheet) (sheets_in part)) sheets long
      (λ k d l.
      let b : k < length sheets = omega (arith, l, long) in
      let owns = λ (p : ℕ). get_or (h.division p (length parts)) k [] in
      let all : AreAll (length (get_or sheets k d).cells) (map owns (range_with_len 0 1)) =
      subst (λ n. AreAll (length (get_or sheets k d).cells) (map owns (range_with_len 0 n))) one (h.shared.all k d b) in
      get_or-map (λ (p : PartSheetData). p.sheet) (sheets_in part) k no_sheet d (omega (arith, b, piece.matched))
      ∙ only_is_whole (get_or sheets k d) (owns 0) (h.ghosts 0) (get_or (sheets_in part) k no_sheet) (piece.each k d no_sheet b) all)

-- the parts of one sheet are sheets
pub column-sheets : (parts : List Part) (count k : ℕ) → ArePieces parts → All (IsMeshOf count) parts → k < count → AreSheets (sheets_at k parts)
column-sheets parts count k a counts l = λ p e b.
    let sheets = a.sheets in
    let first = some_part parts a.are.some in
    let same : count ≡ length sheets = sym (counts 0 first a.are.some).count_is ∙ (of_count sheets parts a.are 0 first a.are.some).count_is in
    let in_parts : p < length parts = omega (arith, b, length-map parts (sheet_at k)) in
    (in_column sheets parts a.are k no_sheet.sheet no_sheet e (omega (arith, l, same)) p in_parts).sheet_is

-- the number of sheets is that of the mesh
pub same-count : (parts : List Part) (sheets : List SheetData) (count : ℕ) → ArePiecesOf sheets parts → All (IsMeshOf count) parts → count ≡ length sheets
same-count parts sheets count h counts =
    let first = some_part parts h.some in
    sym (counts 0 first h.some).count_is ∙ (of_count sheets parts h 0 first h.some).count_is

-- one sheet more is joined
pub sheets-more : (parts : List Part) (n : ℕ) (sheets : List SheetData) (sheet : SheetData) (new : List SheetData) → AreJoinedSheets n parts sheets → IsJoinedSheet (sheets_at n parts) sheet
    → new ≡ sheets ++ sheet ∷ [] → AreJoinedSheets (n + 1) parts new
sheets-more parts n sheets sheet new h j is = record {
  size = ap length is ∙ length_push sheets sheet ∙ ap (λ k. k + 1) h.size;
  each = λ k s l.
      subst (λ (ss : List SheetData). IsJoinedSheet (sheets_at k parts) (get_or ss k s)) (sym is)
      (⊎_elim
      (λ before. subst (λ (t : SheetData). IsJoinedSheet (sheets_at k parts) t) (sym (get_or_append_left sheets (sheet ∷ []) s k (omega (arith, before, h.size)))) (h.each k s before))
      (λ from.
      let at : n ≡ k = omega (arith, from, l) in
      subst (λ (t : SheetData). IsJoinedSheet (sheets_at k parts) t) (sym (get_or_push sheets sheet s k (h.size ∙ at)))
      (subst (λ m. IsJoinedSheet (sheets_at m parts) sheet) at j))
      (cases_lt k n));
}

-- and the last of so many is
pub sheets-last : (parts : List Part) (count : ℕ) (sheets : List SheetData) (sheet : SheetData) (new : List SheetData) → 0 < count → AreJoinedSheets (count - 1) parts sheets
    → IsJoinedSheet (sheets_at (count - 1) parts) sheet → new ≡ sheets ++ sheet ∷ [] → AreJoinedSheets count parts new
sheets-last parts count sheets sheet new some h j is =
    subst (λ n. AreJoinedSheets n parts new) {x = count - 1 + 1} {y = count} (omega (arith, some)) (sheets-more parts (count - 1) sheets sheet new h j is)
