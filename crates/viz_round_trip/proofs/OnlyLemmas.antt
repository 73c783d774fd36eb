-- Of the text of an image nothing else is read.
use Rattle.std.proofs.Common.{◌≡◌, ℕ, Bool}
use Rattle.viz_base.specs.declared.node.Pick.TheVariants.{First}
use Rattle.viz_dataset.specs.declared.dataset.Dataset.{Dataset}
use Rattle.viz_dataset.specs.declared.dataset.Dataset.TheVariants.{Image}
use Rattle.viz_dataset.specs.Images.{ImageData, corner, IsImage, IsOrigin}
use Rattle.viz_lex.specs.declared.fault.FileFault.{FileFault}
use Rattle.viz_lex.specs.Rules.{IsDefinite}
use Rattle.viz_lex.proofs.DecidedLemmas.{IsDefinite-decided}
use Rattle.viz_legacy_read.specs.File.{file}
use Rattle.viz_legacy_read.specs.Reading.{front, Reads, Stops}
use Rattle.viz_legacy_read.specs.Steps.{file_at}
use Rattle.viz_legacy_read.proofs.FileLaws.{decides-file}
use Rattle.viz_image_write.specs.ImageText.{image_text}
use Rattle.viz_round_trip.specs.RoundTrip.{moved}
use Rattle.viz_round_trip.proofs.ImageStanding.{reads-moved}

one_answer : (unit : ℕ) → IsDefinite (file First unit)
one_answer unit = IsDefinite-decided (file First unit) (file_at First unit) (decides-file First unit)

pub reads-only : (later binary : Bool) (unit : ℕ) (i : ImageData) (d : Dataset) → IsImage i → IsOrigin (corner i) → Reads (image_text later binary i) First unit d → d ≡ Image (moved i)
reads-only later binary unit i d is origin found =
    let here = reads-moved later binary unit i is origin in
    ((one_answer unit).one (front (image_text later binary i)) found.0 here.0 d (Image (moved i)) found.1 here.1).0

pub reads-no_fault : (later binary : Bool) (unit : ℕ) (i : ImageData) (fault : FileFault) → IsImage i → IsOrigin (corner i) → ¬ Stops (image_text later binary i) First unit fault
reads-no_fault later binary unit i fault is origin stops =
    let here = reads-moved later binary unit i is origin in
    (one_answer unit).not_both (front (image_text later binary i)) here.0 (Image (moved i)) fault here.1 stops
