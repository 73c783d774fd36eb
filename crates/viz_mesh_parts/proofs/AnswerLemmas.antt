-- From true parts of the inputs, a true part of what is made of them.
use Rattle.std.proofs.Common.{◌≡◌, ℕ, zero, suc, ◌+◌, ◌<◌, Bool, List, [], ◌∷◌, length, get_or, map, replicate, refl, sym, subst, ◌∙◌, arith}
use Rattle.std.specs.Prelude.{ℤ}
use Rattle.std.specs.List.{All, flat_map}
use Rattle.std.proofs.lemmas.List.{get_or-map, length-map, same_lists}
use Rattle.std.proofs.lemmas.List.Folds.{flat_map-map}
use Rattle.viz_fraction.specs.declared.forms.Form.{Form}
use Rattle.viz_meaning.specs.Narrow.{IsNarrowSection}
use Rattle.viz_meaning.specs.Section.{sections_of}
use Rattle.viz_meaning.proofs.ListLemmas.{all-map, all-unmap}
use Rattle.viz_mesh_meaning.specs.Append.{appended}
use Rattle.viz_mesh_meaning.specs.Facets.{boundaries}
use Rattle.viz_mesh_meaning.specs.Merge.{merged}
use Rattle.viz_mesh_meaning.specs.Select.{selections}
use Rattle.viz_parts.specs.Parts.{PartSheetData}
use Rattle.viz_parts.specs.Pieces.{Division, IsMeshPiece, IsPieceOf, IsSheetPart, SharesOut, in_turn}
use Rattle.viz_parts.specs.declared.request.Part.{Part}
use Rattle.viz_parts.specs.declared.request.Part.TheVariants.{Image, Mesh}
use Rattle.viz_piece_divisions.specs.Answers.{AreAnswers, IsAppendedAnswer, IsBoundaryAnswer, IsMergedAnswer, IsNarrowPart, IsOfMesh, IsSectionAnswer, IsSelectedAnswer, parts_in}
use Rattle.viz_piece_divisions.specs.Divisions.{Owns, appended_owns, boundary_owns, section_owns, section_parts, selected_owns}
use Rattle.viz_piece_divisions.specs.Narrow.{sheets_of_parts}
use Rattle.viz_piece_divisions.specs.Pieces.{ArePiecesOfEach}
use Rattle.viz_piece_divisions.proofs.PieceLemmas.{appended_pieces, boundaries_of_pieces, sections_of_pieces, selections_of_pieces}
use Rattle.viz_piece_filters.specs.Filters.{boundary_part, selected_part}
use Rattle.viz_piece_restrict.proofs.PieceLemmas.{whole-part}
use Rattle.viz_piece_stitch.proofs.WholeLemmas.{no_part, only_is_whole}
use Rattle.viz_sheet.specs.Sheet.{SheetData}
use Rattle.viz_mesh_parts.specs.Steps.{IsWholePart}

-- ---- a piece of a mesh, by its sheets

of-piece : (sheets : List SheetData) (owns : Owns) (ghosts : ℕ) (part : Part) → IsMeshPiece sheets owns ghosts part → IsPieceOf sheets owns ghosts (parts_in part)
of-piece sheets owns ghosts (Image image) h = absurd h
of-piece sheets owns ghosts (Mesh parts) h = h

to-piece : (sheets : List SheetData) (owns : Owns) (ghosts : ℕ) (part : Part) → IsOfMesh part → IsPieceOf sheets owns ghosts (parts_in part) → IsMeshPiece sheets owns ghosts part
to-piece sheets owns ghosts (Image image) mesh h = absurd mesh
to-piece sheets owns ghosts (Mesh parts) mesh h = h

-- ---- filters of one input

pub selected-answer : (all : Bool) (lo hi : ℤ) (input made : Part) → IsOfMesh made → parts_in made ≡ map (selected_part all lo hi) (parts_in input) → IsSelectedAnswer all lo hi input made
selected-answer all lo hi input made mesh is = record {
  answers = λ sheets division p n ghosts h. (
    h.0,
    to-piece (selections all lo hi sheets) (selected_owns all lo hi sheets (division p n)) ghosts made mesh
        (subst (IsPieceOf (selections all lo hi sheets) (selected_owns all lo hi sheets (division p n)) ghosts) (sym is)
        ((selections_of_pieces all lo hi (parts_in input)).each sheets (division p n) ghosts (of-piece sheets (division p n) ghosts input h.1))),
  );
}

pub section-answer : (forms : List Form) (input made : Part) → IsOfMesh made → parts_in made ≡ section_parts forms (parts_in input) → IsSectionAnswer forms input made
section-answer forms input made mesh is = record {
  answers = λ sheets division p n ghosts have h. (
    h.0,
    to-piece (sections_of forms sheets) (section_owns forms sheets (division p n)) ghosts made mesh
        (subst (IsPieceOf (sections_of forms sheets) (section_owns forms sheets (division p n)) ghosts) (sym is)
        ((sections_of_pieces forms (parts_in input)).each sheets (division p n) ghosts have (of-piece sheets (division p n) ghosts input h.1))),
  );
}

pub boundary-answer : (ghosts : ℕ) (input made : Part) → IsOfMesh made → parts_in made ≡ map (boundary_part ghosts) (parts_in input) → IsBoundaryAnswer ghosts input made
boundary-answer ghosts input made mesh is = record {
  answers = λ sheets division p n h. (
    h.0,
    to-piece (boundaries sheets) (boundary_owns sheets (division p n)) ghosts made mesh
        (subst (IsPieceOf (boundaries sheets) (boundary_owns sheets (division p n)) ghosts) (sym is)
        ((boundaries_of_pieces ghosts (parts_in input)).each sheets (division p n) (of-piece sheets (division p n) (ghosts + 1) input h.1))),
  );
}

-- ---- joined meshes

first_of : {X : Type 0} (xs : List X) → 0 < length xs → X
first_of [] h = absurd (omega (arith, h))
first_of (x ∷ xs) h = x

no_division : Division
no_division p n = []

each-piece : (meshes : List (List SheetData)) (divisions : List Division) (p n ghosts : ℕ) (inputs : List Part) → AreAnswers meshes divisions p n ghosts inputs
    → ArePiecesOfEach meshes (map (λ division. division p n) divisions) ghosts (map parts_in inputs)
each-piece meshes divisions p n ghosts inputs h = record {
  matched = length-map inputs parts_in ∙ h.matched;
  owned = length-map divisions (λ (division : Division). division p n) ∙ h.divided;
  each = λ k l.
      let first = first_of inputs (omega (arith, l, h.matched)) in
      let mesh = get_or meshes k [] in
      let own = get_or divisions k no_division in
      subst (IsPieceOf mesh (get_or (map (λ (division : Division). division p n) divisions) k []) ghosts)
      (sym (get_or-map parts_in inputs k first [] (omega (arith, l, h.matched))))
      (subst (λ (owns : Owns). IsPieceOf mesh owns ghosts (parts_in (get_or inputs k first)))
      (sym (get_or-map (λ (division : Division). division p n) divisions k no_division [] (omega (arith, l, h.divided))))
      (of-piece mesh (own p n) ghosts (get_or inputs k first) (h.each k no_division first l).1));
}

pub appended-answer : (inputs : List Part) (made : Part) → IsOfMesh made → parts_in made ≡ flat_map parts_in inputs → IsAppendedAnswer inputs made
appended-answer inputs made mesh is = record {
  answers = λ meshes divisions p n ghosts h.
      let owns = map (λ (division : Division). division p n) divisions in
      let pieces = map parts_in inputs in
      let all : parts_in made ≡ flat_map (λ piece. piece) pieces = is ∙ sym (flat_map-map (λ (piece : List PartSheetData). piece) parts_in inputs) in (
        h.below,
        to-piece (appended meshes) (appended_owns owns) ghosts made mesh
            (subst (IsPieceOf (appended meshes) (appended_owns owns) ghosts) (sym all)
            ((appended_pieces pieces).each meshes owns ghosts (each-piece meshes divisions p n ghosts inputs h))),
      );
}

-- ---- merges

-- the only piece of a mesh has its sheets
whole-sheets : (sheets : List SheetData) (division : Division) (ghosts : ℕ) (parts : List PartSheetData) → SharesOut division sheets 1 → IsPieceOf sheets (division 0 1) ghosts parts → sheets_of_parts parts ≡ sheets
whole-sheets sheets division ghosts parts shared h =
    let long : length (sheets_of_parts parts) ≡ length sheets = length-map parts (λ (p : PartSheetData). p.sheet) ∙ h.matched in
    same_lists (sheets_of_parts parts) sheets long
    (λ k d l.
    let b : k < length sheets = omega (arith, l, long) in
    get_or-map (λ (p : PartSheetData). p.sheet) parts k no_part d (omega (arith, b, h.matched))
    ∙ only_is_whole (get_or sheets k d) (get_or (division 0 1) k []) ghosts (get_or parts k no_part) (h.each k d no_part b) (shared.all k d b))

-- a sheet alone is its mesh's only piece
only-piece : (s : SheetData) (parts : List PartSheetData) → IsWholePart s parts → IsPieceOf (s ∷ []) (in_turn (s ∷ []) 0 1) 0 parts
only-piece s parts h = subst (IsPieceOf (s ∷ []) (in_turn (s ∷ []) 0 1) 0) (sym h.parts_are) (record { matched = refl; owned = refl; each = each })
  where
    each : (k : ℕ) (d : SheetData) (e : PartSheetData) → k < 1
        → IsSheetPart (get_or (s ∷ []) k d) (get_or (in_turn (s ∷ []) 0 1) k []) 0 (get_or (record { sheet = s; levels = replicate (length s.cells) 0 } ∷ []) k e)
    each zero d e l = whole-part s h.valid
    each (suc k) d e l = absurd (omega (arith, l))

pub merged-answer : (input made : Part) → IsOfMesh made → IsWholePart (merged (sheets_of_parts (parts_in input))) (parts_in made) → IsMergedAnswer input made
merged-answer input made mesh is = record {
  answers = λ sheets division ghosts shared h.
      let same : sheets_of_parts (parts_in input) ≡ sheets = whole-sheets sheets division ghosts (parts_in input) shared (of-piece sheets (division 0 1) ghosts input h.1) in
      let whole : IsWholePart (merged sheets) (parts_in made) = subst (λ (ss : List SheetData). IsWholePart (merged ss) (parts_in made)) same is in (
        omega arith,
        to-piece (merged sheets ∷ []) (in_turn (merged sheets ∷ []) 0 1) 0 made mesh (only-piece (merged sheets) (parts_in made) whole),
      );
}

-- ---- narrow parts

pub narrow-to : (forms : List Form) (input : Part) (parts : List PartSheetData) → parts ≡ parts_in input → All (λ f. All (λ (p : PartSheetData). IsNarrowSection f p.sheet) parts) forms → IsNarrowPart forms input
narrow-to forms input parts e h = record {
  sections = record {
    each = λ j g l.
        let f = get_or forms j g in
        all-map (IsNarrowSection f) (λ (p : PartSheetData). p.sheet) (parts_in input) (subst (All (λ (p : PartSheetData). IsNarrowSection f p.sheet)) e (h j g l));
  };
}

pub narrow-from : (forms : List Form) (input : Part) (parts : List PartSheetData) → parts ≡ parts_in input → IsNarrowPart forms input → All (λ f. All (λ (p : PartSheetData). IsNarrowSection f p.sheet) parts) forms
narrow-from forms input parts e h j g l =
    let f = get_or forms j g in
    subst (All (λ (p : PartSheetData). IsNarrowSection f p.sheet)) (sym e) (all-unmap (IsNarrowSection f) (λ (p : PartSheetData). p.sheet) (parts_in input) (h.sections.each j g l))
