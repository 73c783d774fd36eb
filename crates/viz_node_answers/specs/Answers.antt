-- Of true parts of what feeds a node, a part of what it makes (VTK User's Guide, "Streaming").
use Rattle.std.specs.Prelude.{◌≡◌, ℕ, ◌+◌, ◌<◌, ℤ, Bool, List, [], ◌∷◌, All, Option, None, Some}
use Rattle.viz_dataset.specs.Images.{ImageData}
use Rattle.viz_dataset.specs.declared.dataset.Dataset.TheVariants.{Image as WholeImage}
use Rattle.viz_fraction.specs.declared.forms.Form.{Form}
use Rattle.viz_kinds.specs.declared.settings.Settings.{Settings}
use Rattle.viz_kinds.specs.declared.settings.Settings.TheVariants as settings
use Rattle.viz_meaning.specs.Tetrahedra.{sheets_of}
use Rattle.viz_node_division.specs.Divided.{Divided, IsMadeOf}
use Rattle.viz_node_meaning.specs.Data.{contour_forms, cut_forms}
use Rattle.viz_node_meaning.specs.Information.{fed_at}
use Rattle.viz_node_meaning.specs.Rules.{Inputs}
use Rattle.viz_parts.specs.Pieces.{IsAnswer, SharesOut}
use Rattle.viz_parts.specs.declared.request.Part.{Part}
use Rattle.viz_parts.specs.declared.request.Part.TheVariants.{Image}
use Rattle.viz_parts.specs.declared.request.Request.{Request}
use Rattle.viz_parts.specs.declared.request.Request.TheVariants.{Block, Piece}
use Rattle.viz_piece_divisions.specs.Answers.{
  IsAppendedAnswer,
  IsBoundaryAnswer,
  IsMergedAnswer,
  IsSectionAnswer,
  IsSelectedAnswer,
}
use Rattle.viz_piece_divisions.specs.Pieces.{HasLevel}
use Rattle.viz_piece_section.specs.Sections.{AnswersSections}
use Rattle.viz_piece_tets.specs.Asked.{asked}
use Rattle.viz_piece_tets.specs.Tets.{AnswersTets}

-- a part is one of the dataset, as it is shared out, for the request
abbrev pub IsPartFor : Divided → Request → Part → Type 0
IsPartFor d request part = IsAnswer d.whole d.division request part

-- the parts of what feeds the ports, ports ascending, for one request
abbrev pub ArePartsFor : Inputs Divided → Request → List Part → Type 0
ArePartsFor [] request [] = Unit {0}
ArePartsFor [] request (part ∷ parts) = ⊥
ArePartsFor (None ∷ inputs) request parts = ArePartsFor inputs request parts
ArePartsFor (Some d ∷ inputs) request [] = ⊥
ArePartsFor (Some d ∷ inputs) request (part ∷ parts) =
    IsPartFor d request part × ArePartsFor inputs request parts

-- a node with these parameters makes this of what feeds its first port
pub record IsMadeFrom (s : Settings) (first made : Divided) : Type 0 where
  pub file : Option (List ℕ)
  pub inputs : Inputs Divided
  pub fed : fed_at 1 inputs ≡ Some first
  pub made_of : IsMadeOf s file inputs made

-- ---- filters of meshes

abbrev pub SelectionAnswers : Type 0
SelectionAnswers =
    (all : Bool) (lo hi : ℤ) (first made : Divided)
    → IsMadeFrom (settings.Select lo hi all) first made
    → (p n ghosts : ℕ) (input part : Part) → IsSelectedAnswer all lo hi input part
    → IsPartFor first (Piece p n ghosts) input → IsPartFor made (Piece p n ghosts) part

-- of a part with one ghost level more
abbrev pub BoundaryAnswers : Type 0
BoundaryAnswers =
    (first made : Divided) → IsMadeFrom settings.Boundary first made
    → (p n ghosts : ℕ) (input part : Part) → IsBoundaryAnswer ghosts input part
    → IsPartFor first (Piece p n (ghosts + 1)) input → IsPartFor made (Piece p n ghosts) part

-- the forms of a section by its node's parameters
abbrev pub forms_of : Settings → Option (List Form)
forms_of (settings.Contour count levels) = Some (contour_forms count levels)
forms_of (settings.Cut a b c r) = Some (cut_forms a b c r)
forms_of _ = None

abbrev pub SectionAnswers : Type 0
SectionAnswers =
    (s : Settings) (forms : List Form) (first made : Divided) → forms_of s ≡ Some forms
    → IsMadeFrom s first made → All HasLevel (sheets_of first.whole)
    → (p n ghosts : ℕ) (input part : Part) → IsSectionAnswer forms input part
    → IsPartFor first (Piece p n ghosts) input → IsPartFor made (Piece p n ghosts) part

abbrev pub AppendAnswers : Type 0
AppendAnswers =
    (file : Option (List ℕ)) (inputs : Inputs Divided) (made : Divided)
    → IsMadeOf settings.Append file inputs made
    → (p n ghosts : ℕ) (parts : List Part) (part : Part) → p < n → IsAppendedAnswer parts part
    → ArePartsFor inputs (Piece p n ghosts) parts → IsPartFor made (Piece p n ghosts) part

-- of the only piece, by a division that shares all cells out
abbrev pub MergeAnswers : Type 0
MergeAnswers =
    (first made : Divided) → IsMadeFrom settings.Merge first made
    → SharesOut first.division (sheets_of first.whole) 1
    → (ghosts : ℕ) (input part : Part) → IsMergedAnswer input part
    → IsPartFor first (Piece 0 1 ghosts) input → IsPartFor made (Piece 0 1 0) part

-- a writer gives what feeds it
abbrev pub WriterAnswers : Type 0
WriterAnswers =
    (binary : Bool) (digits version : ℕ) (first made : Divided)
    → IsMadeFrom (settings.Writer binary digits version) first made
    → (request : Request) (part : Part) → IsPartFor first request part
    → IsPartFor made request part

-- ---- filters that make meshes of images

-- of the block that the piece asks for
abbrev pub TetsAnswer : Type 0
TetsAnswer =
    (image : ImageData) (first made : Divided) → first.whole ≡ WholeImage image
    → IsMadeFrom settings.Tets first made
    → (p n ghosts : ℕ) (block : ImageData) (part : Part)
    → AnswersTets p n ghosts image.extent block part
    → IsPartFor first (Block (asked p n ghosts image.extent)) (Image block)
    → IsPartFor made (Piece p n ghosts) part

abbrev pub ImageSectionAnswers : Type 0
ImageSectionAnswers =
    (s : Settings) (forms : List Form) (image : ImageData) (first made : Divided)
    → forms_of s ≡ Some forms → first.whole ≡ WholeImage image
    → IsMadeFrom s first made
    → (p n ghosts : ℕ) (block : ImageData) (part : Part)
    → AnswersSections forms p n ghosts image.extent block part
    → IsPartFor first (Block (asked p n ghosts image.extent)) (Image block)
    → IsPartFor made (Piece p n ghosts) part
