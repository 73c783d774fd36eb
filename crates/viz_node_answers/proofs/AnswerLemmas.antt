-- Parts of what feeds a node, and the part that is made of them.
use Rattle.std.proofs.Common.{
  ◌≡◌,
  ℕ,
  zero,
  suc,
  ◌+◌,
  ◌<◌,
  List,
  [],
  ◌∷◌,
  get_or,
  length,
  None,
  Some,
  Ok,
  refl,
  sym,
  ap,
  subst,
  ◌∙◌,
  arith,
}
use Rattle.std.specs.List.{All}
use Rattle.viz_dataset.specs.Images.{ImageData}
use Rattle.viz_dataset.specs.declared.dataset.Dataset.{Dataset}
use Rattle.viz_dataset.specs.declared.dataset.Dataset.TheVariants as dataset
use Rattle.viz_fraction.specs.declared.forms.Form.{Form}
use Rattle.viz_kinds.specs.declared.settings.Settings.{Settings}
use Rattle.viz_kinds.specs.declared.settings.Settings.TheVariants as settings
use Rattle.viz_meaning.specs.Section.{sections_of}
use Rattle.viz_meaning.specs.Tetrahedra.{sheets_of, tetrahedra_sheet}
use Rattle.viz_mesh_meaning.specs.Append.{appended}
use Rattle.viz_mesh_meaning.specs.Facets.{boundaries}
use Rattle.viz_mesh_meaning.specs.Select.{selections}
use Rattle.viz_node_division.specs.Divided.{
  Divided,
  division_at,
  divisions_in,
  handed_at,
  sheets_at,
  turn_of,
  wholes,
}
use Rattle.viz_node_division.specs.Exact.{IsExactSectionOf}
use Rattle.viz_node_division.proofs.DividedLemmas.{shared_as}
use Rattle.viz_node_division.proofs.RowLemmas.{
  IsOk,
  first_whole,
  of_either,
  of_image,
  of_mesh,
  row_made,
  sections_made,
  whole_at,
}
use Rattle.viz_node_meaning.specs.Data.{
  AreTetrahedra,
  IsOfMesh,
  contour_forms,
  cut_forms,
  merge_of,
  meshes_in,
}
use Rattle.viz_node_meaning.specs.Information.{fed_at}
use Rattle.viz_node_meaning.specs.Rules.{Inputs}
use Rattle.viz_parts.specs.Pieces.{Division, IsAnswer, SharesOut, in_turn}
use Rattle.viz_parts.specs.declared.request.Part.{Part}
use Rattle.viz_parts.specs.declared.request.Part.TheVariants.{Image}
use Rattle.viz_parts.specs.declared.request.Request.{Request}
use Rattle.viz_parts.specs.declared.request.Request.TheVariants.{Block, Piece}
use Rattle.viz_piece_divisions.specs.Answers.{IsMergedAnswer}
use Rattle.viz_piece_divisions.specs.Divisions.{
  Owns,
  appended_division,
  boundary_owns,
  handed_division,
  section_owns,
  selected_owns,
}
use Rattle.viz_piece_divisions.specs.Pieces.{HasLevel}
use Rattle.viz_piece_section.specs.Sections.{own_section, sections_by_layers}
use Rattle.viz_piece_tets.specs.Asked.{asked}
use Rattle.viz_piece_tets.specs.Tets.{by_layers}
use Rattle.viz_sheet.specs.Sheet.{SheetData}
use Rattle.viz_node_answers.specs.Answers.{
  AppendAnswers,
  ArePartsFor,
  BoundaryAnswers,
  ImageSectionAnswers,
  IsMadeFrom,
  IsPartFor,
  MergeAnswers,
  SectionAnswers,
  SelectionAnswers,
  TetsAnswer,
  WriterAnswers,
  forms_of,
}

-- ---- what is made of the first port

-- a part of what is made, by equal datasets and divisions
as_made : (sheets : List SheetData) (division : Division) (made : Divided)
    → dataset.Mesh sheets ≡ made.whole → made.division ≡ division
    → (p n ghosts : ℕ) (part : Part)
    → IsAnswer (dataset.Mesh sheets) division (Piece p n ghosts) part
    → IsPartFor made (Piece p n ghosts) part
as_made sheets division made is shared p n ghosts part h =
    subst (λ w. IsAnswer w made.division (Piece p n ghosts) part) is
    (subst (λ d. IsAnswer (dataset.Mesh sheets) d (Piece p n ghosts) part) (sym shared) h)

-- the dataset at the first port
first_is : (inputs : Inputs Divided) (first : Divided) → fed_at 1 inputs ≡ Some first
    → fed_at 1 (wholes inputs) ≡ Some first.whole
first_is inputs first e = first_whole inputs ∙ ap whole_at e

module _ (make : List SheetData → List SheetData) (hand : List SheetData → Owns
    → Owns) (first made : Divided) (p n ghosts more : ℕ) (input part : Part)
    (is : dataset.Mesh (make (sheets_of first.whole)) ≡ made.whole)
    (shared : made.division ≡ handed_at hand (Some first))
    (answers : (sheets : List SheetData) (division : Division) → sheets_of first.whole ≡ sheets
    → IsAnswer (dataset.Mesh sheets) division (Piece p n more) input
    → IsAnswer (dataset.Mesh (make sheets)) (handed_division hand sheets division)
    (Piece p n ghosts) part) where
  handed_part : (whole : Dataset) (division : Division) → first.whole ≡ whole
      → first.division ≡ division → IsAnswer whole division (Piece p n more) input
      → IsPartFor made (Piece p n ghosts) part
  handed_part (dataset.Image image) division w d h = absurd h
  handed_part (dataset.Mesh sheets) division w d h =
      let same : sheets_of first.whole ≡ sheets = ap sheets_of w in
      let whole : dataset.Mesh (make sheets) ≡ made.whole =
      ap (λ s. dataset.Mesh (make s)) (sym same)
      ∙ is in
      let first_division : made.division ≡ handed_at hand
      (Some (shared_as (dataset.Mesh sheets) division)) = shared
      ∙ ap (λ w. handed_at hand (Some (shared_as w first.division))) w
      ∙ ap (λ d. handed_at hand (Some (shared_as (dataset.Mesh sheets) d))) d in
      as_made (make sheets)
      (handed_division hand sheets division) made whole first_division p n ghosts part
      (answers sheets division same h)

  handed_first : IsPartFor first (Piece p n more) input → IsPartFor made (Piece p n ghosts) part
  handed_first h = handed_part first.whole first.division refl refl h

pub select_answers : SelectionAnswers
select_answers all lo hi first made m p n ghosts input part is h =
    let s = settings.Select lo hi all in
    let row = row_made s m.inputs made.whole m.made_of.exact in
    let whole =
    of_mesh (selections all lo hi) first.whole made.whole
    (subst (λ o. IsOfMesh (selections all lo hi) o (Ok made.whole))
    (first_is m.inputs first m.fed) row) in
    handed_first (selections all lo hi)
    (selected_owns all lo hi) first made p n ghosts ghosts input part whole
    (m.made_of.divided ∙ ap (handed_at (selected_owns all lo hi)) m.fed)
    (λ sheets division same a. is.answers sheets division p n ghosts a) h

pub boundary_answers : BoundaryAnswers
boundary_answers first made m p n ghosts input part is h =
    let row = row_made settings.Boundary m.inputs made.whole m.made_of.exact in
    let whole =
    of_mesh boundaries first.whole made.whole
    (subst (λ o. IsOfMesh boundaries o (Ok made.whole))
    (first_is m.inputs first m.fed) row) in
    handed_first boundaries boundary_owns first made p n ghosts (ghosts + 1) input part whole
    (m.made_of.divided ∙ ap (handed_at boundary_owns) m.fed)
    (λ sheets division same a. is.answers sheets division p n a) h

-- ---- sections

-- what a section makes of what feeds the first port
record IsSectionMade (forms : List Form) (first made : Divided) : Type 0 where
  whole : dataset.Mesh (sections_of forms (sheets_of first.whole)) ≡ made.whole
  division : made.division ≡ handed_at (section_owns forms) (Some first)

section_from : (forms : List Form) (inputs : Inputs Divided) (first made : Divided)
    → fed_at 1 inputs ≡ Some first → IsExactSectionOf forms (fed_at 1 (wholes inputs)) (Ok made.whole)
    → made.division ≡ handed_at (section_owns forms) (fed_at 1 inputs)
    → IsSectionMade forms first made
section_from forms inputs first made fed row shared = record {
  whole =
      of_either forms first.whole made.whole
      (subst (λ o. IsExactSectionOf forms o (Ok made.whole)) (first_is inputs first fed) row);
  division = shared ∙ ap (handed_at (section_owns forms)) fed;
}

same_forms : (forms others : List Form) (first made : Divided) → Some forms ≡ Some others
    → IsSectionMade forms first made → IsSectionMade others first made
same_forms forms others first made e h =
    let same : forms ≡ others = cc in
    subst (λ f. IsSectionMade f first made) same h

section_made : (s : Settings) (forms : List Form) (first made : Divided) → forms_of s ≡ Some forms
    → IsMadeFrom s first made → IsSectionMade forms first made
section_made (settings.Contour count levels) forms first made e m =
    same_forms (contour_forms count levels) forms first made e
    (section_from (contour_forms count levels) m.inputs first made m.fed
    (sections_made (settings.Contour count levels)
    (contour_forms count levels) m.inputs made.whole m.made_of.exact) m.made_of.divided)
section_made (settings.Cut a b c r) forms first made e m =
    same_forms (cut_forms a b c r) forms first made e
    (section_from (cut_forms a b c r) m.inputs first made m.fed
    (sections_made (settings.Cut a b c r)
    (cut_forms a b c r) m.inputs made.whole m.made_of.exact) m.made_of.divided)
section_made (settings.File array unit) forms first made e m = let bad : ⊥ = cc in absurd bad
section_made (settings.Crop x0 x1 y0 y1 z0 z1) forms first made e m =
    let bad : ⊥ = cc in absurd bad
section_made (settings.Sample x y z) forms first made e m = let bad : ⊥ = cc in absurd bad
section_made (settings.Threshold lo hi) forms first made e m = let bad : ⊥ = cc in absurd bad
section_made (settings.Smooth radius) forms first made e m = let bad : ⊥ = cc in absurd bad
section_made (settings.Arith op) forms first made e m = let bad : ⊥ = cc in absurd bad
section_made settings.Tets forms first made e m = let bad : ⊥ = cc in absurd bad
section_made (settings.Select lo hi all) forms first made e m = let bad : ⊥ = cc in absurd bad
section_made settings.Append forms first made e m = let bad : ⊥ = cc in absurd bad
section_made settings.Boundary forms first made e m = let bad : ⊥ = cc in absurd bad
section_made settings.Merge forms first made e m = let bad : ⊥ = cc in absurd bad
section_made (settings.Writer binary digits version) forms first made e m =
    let bad : ⊥ = cc in absurd bad

pub section_answers : SectionAnswers
section_answers s forms first made e m levels p n ghosts input part is h =
    let made_is = section_made s forms first made e m in
    handed_first (sections_of forms)
    (section_owns forms) first made p n ghosts ghosts input part made_is.whole made_is.division
    (λ sheets division same a. is.answers sheets division p n ghosts
    (subst (All HasLevel) same levels) a) h

-- ---- images

image_whole : (image : ImageData) (first : Divided) (b : Request) (block : ImageData)
    → first.whole ≡ dataset.Image image → IsPartFor first b (Image block)
    → IsAnswer (dataset.Image image) first.division b (Image block)
image_whole image first b block w h = subst (λ z. IsAnswer z first.division b (Image block)) w h

pub tets_answer : TetsAnswer
tets_answer image first made w m p n ghosts block part is h =
    let row = row_made settings.Tets m.inputs made.whole m.made_of.exact in
    let whole =
    of_image first.whole made.whole
    (subst (λ o. AreTetrahedra o (Ok made.whole)) (first_is m.inputs first m.fed) row) in
    let same : dataset.Mesh (tetrahedra_sheet image ∷ []) ≡ made.whole =
    ap (λ z. dataset.Mesh (sheets_of z)) (sym w)
    ∙ whole in
    let shared : made.division ≡ by_layers image.extent = m.made_of.divided ∙ ap sheets_at m.fed
    ∙ ap (λ z. sheets_at (Some (shared_as z first.division))) w in
    as_made (tetrahedra_sheet image ∷ []) (by_layers image.extent) made same shared p n ghosts part
    (is.each image refl
    (image_whole image first (Block (asked p n ghosts image.extent)) block w h))

-- own positions in sections by layers are handed on from those in the tetrahedra
by_layers_are : (forms : List Form) (image : ImageData) (p n : ℕ)
    → sections_by_layers forms image p n ≡ handed_division (section_owns forms)
    (tetrahedra_sheet image ∷ []) (by_layers image.extent) p n
by_layers_are [] image p n = refl
by_layers_are (f ∷ fs) image p n =
    ap (λ r. own_section f image p n ∷ r) (by_layers_are fs image p n)

pub image_section_answers : ImageSectionAnswers
image_section_answers s forms image first made e w m p n ghosts block part is h =
    let made_is = section_made s forms first made e m in
    let sheets = tetrahedra_sheet image ∷ [] in
    let made_whole = dataset.Mesh (sections_of forms sheets) in
    let same : made_whole ≡ made.whole =
    ap (λ z. dataset.Mesh (sections_of forms (sheets_of z))) (sym w)
    ∙ made_is.whole in
    let shared : made.division ≡ handed_division (section_owns forms) sheets
    (by_layers image.extent) = made_is.division
    ∙ ap (λ z. handed_at (section_owns forms) (Some (shared_as z first.division))) w in
    let answer =
    is.each image refl
    (image_whole image first (Block (asked p n ghosts image.extent)) block w h) in
    as_made (sections_of forms sheets)
    (handed_division (section_owns forms) sheets
    (by_layers image.extent)) made same shared p n ghosts part
    (subst (λ (owns : Owns). IsAnswer made_whole (λ q k. owns) (Piece p n ghosts) part)
    (by_layers_are forms image p n) answer)

-- ---- meshes one behind the other

record AreOfMeshes (inputs : Inputs Divided) (p n ghosts : ℕ) (parts : List Part) : Type 0 where
  matched : length parts ≡ length (meshes_in (wholes inputs))
  divided : length (divisions_in inputs) ≡ length (meshes_in (wholes inputs))
  each : (k : ℕ) (d : Division) (input : Part) → k < length (meshes_in (wholes inputs))
      → IsAnswer (dataset.Mesh (get_or (meshes_in (wholes inputs)) k []))
      (get_or (divisions_in inputs) k d) (Piece p n ghosts) (get_or parts k input)

one_more : (whole : Dataset) (division : Division) (inputs : Inputs Divided) (p n ghosts : ℕ)
    (part : Part) (parts : List Part)
    → IsAnswer whole division (Piece p n ghosts) part → AreOfMeshes inputs p n ghosts parts
    → AreOfMeshes (Some (shared_as whole division) ∷ inputs) p n ghosts (part ∷ parts)
one_more (dataset.Image image) division inputs p n ghosts part parts h t = absurd h
one_more (dataset.Mesh sheets) division inputs p n ghosts part parts h t =
    record { matched = ap suc t.matched; divided = ap suc t.divided; each = each }
  where
    each : (k : ℕ) (d : Division) (input : Part) → k < length (sheets ∷ meshes_in (wholes inputs))
        → IsAnswer (dataset.Mesh (get_or (sheets ∷ meshes_in (wholes inputs)) k []))
        (get_or (division ∷ divisions_in inputs) k d) (Piece p n ghosts)
        (get_or (part ∷ parts) k input)
    each zero d input l = h
    each (suc k) d input l = t.each k d input (omega (arith, l))

of_meshes : (inputs : Inputs Divided) (p n ghosts : ℕ) (parts : List Part)
    → ArePartsFor inputs (Piece p n ghosts) parts → AreOfMeshes inputs p n ghosts parts
of_meshes [] p n ghosts [] h =
    record { matched = refl; divided = refl; each = λ k d input l. absurd (omega (arith, l)) }
of_meshes [] p n ghosts (part ∷ parts) h = absurd h
of_meshes (None ∷ inputs) p n ghosts parts h =
    let t = of_meshes inputs p n ghosts parts h in
    record { matched = t.matched; divided = t.divided; each = t.each }
of_meshes (Some d ∷ inputs) p n ghosts [] h = absurd h
of_meshes (Some d ∷ inputs) p n ghosts (part ∷ parts) h =
    one_more d.whole d.division inputs p n ghosts part parts h.0
    (of_meshes inputs p n ghosts parts h.1)

pub append_answers : AppendAnswers
append_answers file inputs made m p n ghosts parts part less is h =
    let meshes = meshes_in (wholes inputs) in
    let t = of_meshes inputs p n ghosts parts h in
    let row : IsOk (Ok made.whole) (dataset.Mesh (appended meshes)) =
    row_made settings.Append inputs made.whole m.exact in
    let same : dataset.Mesh (appended meshes) ≡ made.whole = cc in
    as_made (appended meshes)
    (appended_division (divisions_in inputs)) made same m.divided p n ghosts part
    (is.answers meshes (divisions_in inputs) p n ghosts
    (record { matched = t.matched; divided = t.divided; below = less; each = t.each }))

-- ---- merges and writers

merge_part : (whole : Dataset) (division : Division) (made : Divided) (ghosts : ℕ)
    (input part : Part)
    → IsOfMesh merge_of (Some whole) (Ok made.whole) → made.division ≡ turn_of made.whole
    → SharesOut division (sheets_of whole) 1 → IsMergedAnswer input part
    → IsAnswer whole division (Piece 0 1 ghosts) input → IsPartFor made (Piece 0 1 0) part
merge_part (dataset.Image image) division made ghosts input part row turn shares is h = absurd h
merge_part (dataset.Mesh sheets) division made ghosts input part row turn shares is h =
    let same = of_mesh merge_of (dataset.Mesh sheets) made.whole row in
    as_made (merge_of sheets) (in_turn (merge_of sheets)) made same (turn
    ∙ ap turn_of (sym same)) 0 1 0 part (is.answers sheets division ghosts shares h)

pub merge_answers : MergeAnswers
merge_answers first made m shares ghosts input part is h =
    let row = row_made settings.Merge m.inputs made.whole m.made_of.exact in
    merge_part first.whole first.division made ghosts input part
    (subst (λ o. IsOfMesh merge_of o (Ok made.whole))
    (first_is m.inputs first m.fed) row) m.made_of.divided shares is h

pub writer_answers : WriterAnswers
writer_answers binary digits version first made m request part h =
    let row = row_made (settings.Writer binary digits version) m.inputs made.whole m.made_of.exact in
    let same : first.whole ≡ made.whole =
    let at : Some first.whole ≡ Some row.0 = sym (first_is m.inputs first m.fed) ∙ row.1 in
    let given = row.2 in
    cc in
    let shared : made.division ≡ first.division = m.made_of.divided ∙ ap division_at m.fed in
    subst (λ w. IsAnswer w made.division request part) same
    (subst (λ d. IsAnswer first.whole d request part) (sym shared) h)
