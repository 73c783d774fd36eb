-- What a run that makes a volume did at its port (docs/DEFINITIONS.md, "The account of a run").
use Rattle.std.specs.Prelude.{◌≡◌, ℕ, ◌+◌, List, [], ◌∷◌, length, false, Option, None, Some}
use Rattle.viz_base.specs.declared.port.Port as port
use Rattle.viz_base.specs.declared.call.Call.{Call}
use Rattle.viz_base.specs.declared.call.Call.TheVariants.{Write}
use Rattle.viz_base.specs.declared.call.WriteAnswer.{WriteAnswer}
use Rattle.viz_base.specs.declared.call.WriteAnswer.TheVariants as write
use Rattle.viz_extent.specs.Extent.{Bounds, count_of}
use Rattle.viz_dataset.specs.Images.{ImageData}
use Rattle.viz_image_write.specs.ImageText.{image_text}
use Rattle.viz_grid_section.specs.Edges.{Edge}
use Rattle.viz_surface_law.specs.Audit.{count_sides, count_two, count_lone, count_border}
use Rattle.viz_surface_law.specs.Contours.{triangles_of}
use Rattle.viz_told.specs.Calls.{IsCalled}
use Rattle.viz_make.specs.Volume.{volume, volume_sum}
use Rattle.viz_make.specs.NarrowVolumes.{middle}
use Rattle.viz_make.specs.declared.came.Came.{Came}
use Rattle.viz_make.specs.declared.came.Came.TheVariants as came
use Rattle.viz_make.specs.declared.made.Made.{Made}

-- the words of the command: a number, the extent of the volume, and the name of its file
pub record Make : Type 0 where
  pub number : ℕ
  pub extent : Bounds
  pub output : List ℕ

-- the volume of the number
abbrev pub image_of : Make → ImageData
image_of c = volume c.number c.extent

-- the text that is written
abbrev pub volume_text : Make → List ℕ
volume_text c = image_text false false (image_of c)

-- the triangles of its contour at the middle, by edges
abbrev pub contour_of : Make → List (List Edge)
contour_of c = triangles_of middle (image_of c)

-- the numbers of a made volume: its points and the sum of its values, and the audit of its contour
pub record IsMade (c : Make) (made : Made) : Type 0 where
  pub points : made.points ≡ count_of c.extent
  pub sum : made.sum ≡ volume_sum c.number c.extent
  pub cells : made.cells ≡ length (contour_of c)
  pub sides : made.sides ≡ count_sides (contour_of c)
  pub two : made.two ≡ count_two (contour_of c)
  pub lone : made.lone ≡ count_lone (contour_of c)
  pub border : made.border ≡ count_border c.extent (contour_of c)

-- each side lies in two triangles or is a border side, and every lone one is a border side
pub record IsClosed (made : Made) : Type 0 where
  pub sides : made.sides ≡ made.two + made.border
  pub lone : made.lone ≡ made.border

-- ---- the port

-- the calls of a write that was answered so, or of none
abbrev pub written : Make → Option WriteAnswer → List Call
written c None = []
written c (Some answer) = Write c.output (volume_text c) answer ∷ []

-- how a run ended whose write was answered so
abbrev pub IsEndOfMaking : Make → Option WriteAnswer → Came → Type 0
IsEndOfMaking c (Some write.Written) (came.Written made) = IsMade c made × IsClosed made
IsEndOfMaking c (Some write.Failed) came.Unwritten = Unit {0}
IsEndOfMaking c None came.Memory = Unit {0}
IsEndOfMaking c answer ended = ⊥

-- the first port was used so, and all others are as before; where there is none nothing is done
abbrev pub IsMakeRun : {P : Type 0} → port.Ghosts P → Make → Came → List P → List P → Type 0
IsMakeRun m c ended [] new = (ended ≡ came.NoPort) × (new ≡ [])
IsMakeRun m c ended (p ∷ ps) [] = ⊥
IsMakeRun m c ended (p ∷ ps) (q ∷ qs) =
    ((answer : Option WriteAnswer) × IsEndOfMaking c answer ended
    × IsCalled m (written c answer) p q)
    × (qs ≡ ps)
