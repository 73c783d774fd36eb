-- The network in which a made volume is contoured. Only private contracts and proofs speak of it.
use Rattle.std.specs.Prelude.{ℕ, ℤ, pos, List, [], ◌∷◌, replicate, codes}
use Rattle.viz_dataset.specs.Images.{corner, IsImage, IsOrigin}
use Rattle.viz_kinds.specs.declared.kind.Kind.TheVariants as kind
use Rattle.viz_kinds.specs.declared.param.Param.TheVariants as param
use Rattle.viz_kinds.specs.declared.param.Value.{Value}
use Rattle.viz_kinds.specs.declared.param.Value.TheVariants.{Numbers}
use Rattle.viz_network.specs.declared.edit.Edit.{Edit}
use Rattle.viz_network.specs.declared.edit.Edit.TheVariants.{Add, Load, Connect, Set}
use Rattle.viz_network.specs.History.{net_of}
use Rattle.viz_network.specs.Network.{Network}
use Rattle.viz_round_trip.specs.RoundTrip.{moved}
use Rattle.viz_sheet.specs.Sheet.{SheetData}
use Rattle.viz_surface_law.specs.Contours.{contour_of}
use Rattle.viz_make.specs.Make.{Make, image_of}
use Rattle.viz_make.specs.NarrowVolumes.{middle}

-- the name of the source
abbrev pub source : List ℕ
source = codes "src"

-- the name of the contour's node
abbrev pub iso : List ℕ
iso = codes "iso"

-- one number as the value of a parameter
abbrev pub value_of : ℤ → Value
value_of n = Numbers 1 (n ∷ replicate 7 (pos 0))

-- the source and its file, the contour behind it, its level, and that its parts needn't stay
abbrev pub edits_with : List ℕ → List Edit
edits_with text =
    Add kind.File source ∷ Load source text ∷ Add kind.Contour iso ∷ Connect source iso 1
    ∷ Set iso param.Levels (value_of middle) ∷ Set iso param.Release (value_of (pos 1)) ∷ []

-- the network of these edits
abbrev pub network_with : List ℕ → Network
network_with text = net_of (edits_with text)

-- the position of the contour's Add
abbrev pub iso_id : ℕ
iso_id = 3

-- the volume can be written
pub record IsWritable (c : Make) : Type 0 where
  pub image : IsImage (image_of c)
  pub origin : IsOrigin (corner (image_of c))

-- the contour of the volume as it is read again
abbrev pub contour_again : Make → SheetData
contour_again c = contour_of middle (moved (image_of c))
