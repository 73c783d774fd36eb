-- What is known of the parts before, as the readers keep it (docs/FORMATS-OF-FILES.md, "Attribute
-- parts").
use Rattle.std.specs.Prelude.{Bool, false, not, ◌&&◌, ◌||◌, List, fold, Option, Some, None}
use Rattle.std.specs.Prelude.{if◌then◌else◌}
use Rattle.viz_column.specs.Numbers.{Numbers}
use Rattle.viz_attr.specs.declared.parts.Association.{Association}
use Rattle.viz_attr.specs.Picks.{Given, Head, Part, Begins, Holds, fits_pick}

-- the association that was begun last, whether an array fitted the pick, and the numbers of the
-- first that did
pub record Known : Type 0 where
  pub association : Option Association
  pub found : Bool
  pub picked : Option Numbers

-- at the start
abbrev pub start : Known
start = record { association = None; found = false; picked = None }

-- with one part more
abbrev pub with_part : Given → Known → Part → Known
with_part g k
    (Begins association) =
    record { association = Some association; found = k.found; picked = k.picked }
with_part g k (Holds head column) = record {
  association = k.association;
  found = k.found || fits_pick g head;
  picked = if fits_pick g head && not k.found then column else k.picked;
}

-- with all of these more
abbrev pub with_parts : Given → Known → List Part → Known
with_parts g k parts = fold (with_part g) k parts

-- an array is the picked one
abbrev pub is_wanted : Given → Known → Head → Bool
is_wanted g k head = fits_pick g head && not k.found
